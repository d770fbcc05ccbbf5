use Rattle.std.proofs.Common.{◌*◌, ap₂, ◌∙◌}
use Rattle.sil_cfg.specs.Flow.{numbered}
use Rattle.reach_engine.proofs.RowsMoved.{edge_taken}
use Rattle.reach_engine.proofs.rows.take_edge.Goals as goal

pub returns : goal.returns
returns g c =
    edge_taken (numbered c.args.g.now) (g.F.Family.step_of c.args.family.now) (g.F.Family.state_count c.args.family.now) (g.F.Family.subject_count c.args.family.now) c.args.width c.args.edge
    c.args.bundle.now c.move_all.new.bundle c.args.rows.now c.merge.new.rows c.args.bad.now c.move_all.new.bad
    (c.edge_to.result.0 * (c.states.result * c.args.width)) c.edge_item.result c.merge.result c.requires.fits (c.move_all.auto.bundle ∙ c.requires.bundle) c.edge_item.ensures.item
    (ap₂ (λ d n. d * (n * c.args.width)) c.edge_to.ensures.to c.states.ensures) c.move_all.ensures c.merge.ensures.inside c.merge.ensures.below c.merge.ensures.above
    c.merge.ensures.none c.merge.ensures.some
