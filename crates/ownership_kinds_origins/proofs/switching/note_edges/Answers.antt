use Rattle.ownership_kinds_origins.proofs.Noting.{edges_more}
use Rattle.ownership_kinds_origins.proofs.switching.note_edges.Goals as goal

pub loop-edge-preserved : goal.loop-edge-preserved
loop-edge-preserved c =
    edges_more c.args.switch.now c.args.edges.now c.loop-edge.edge-index c.edge-item.result c.args.table.now c.loop-edge.table c.note_edge.new.table c.loop-edge-test.true c.edge-item.is
    c.loop-edge.auto.table c.loop-edge.invariant c.note_edge.ensures
