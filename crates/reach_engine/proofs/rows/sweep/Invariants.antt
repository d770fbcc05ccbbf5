use Rattle.sil_cfg.specs.Flow.{numbered}
use Rattle.reach_engine.specs.inner.Reached.{Swept}
use Rattle.reach_engine.proofs.rows.sweep.Given as goal

abbrev pub invariant-loop-block : goal.invariant-loop-block
invariant-loop-block g l =
    Swept (numbered l.g) (g.F.Family.step_of l.family) (g.F.Family.state_count l.family) (g.F.Family.subject_count l.family) l.width l.fn.rows l.rows l.bad l.fn.dirty l.dirty l.block l.changed
