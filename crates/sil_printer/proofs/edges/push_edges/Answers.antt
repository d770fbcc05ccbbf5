use Rattle.std.proofs.Common.{◌<◌, codes, length, arith}
use Rattle.sil_printer.specs.CanonicalInsts.{edge_text}
use Rattle.sil_printer.proofs.Joined.{join_by_step}
use Rattle.sil_printer.proofs.edges.push_edges.Goals as goal

pub loop-i-preserved : goal.loop-i-preserved
loop-i-preserved c =
    let within : c.loop-i.i < length c.args.edges.now = omega arith in
    join_by_step (edge_text c.args.op) (codes ", ") c.args.edges.now c.loop-i.i c.index-edges-i.result _ _ _ _
    within c.index-edges-i.is c.loop-i.invariant c.in_ok-push_separator.ensures c.in_ok-push_edge.ensures
