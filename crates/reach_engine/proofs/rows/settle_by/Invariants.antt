use Rattle.std.proofs.Common.{◌≡◌, ◌+◌, false, cond}
use Rattle.sil_cfg.specs.Flow.{numbered, block_count}
use Rattle.reach_engine.specs.inner.Reached.{IsSettled, IsClosed, work_left, cap_of}
use Rattle.reach_engine.proofs.rows.settle_by.Given as goal

abbrev pub invariant-loop-changed : goal.invariant-loop-changed
invariant-loop-changed g l = record {
  settled : IsSettled (numbered l.g) (g.F.Family.step_of l.family) (g.F.Family.state_count l.family) (g.F.Family.subject_count l.family) l.width l.rows l.bad l.dirty;
  closed : l.changed ≡ false → IsClosed (numbered l.g) (g.F.Family.step_of l.family) (g.F.Family.state_count l.family) (g.F.Family.subject_count l.family) l.width l.rows l.bad;
}

abbrev pub decreases-loop-changed : goal.decreases-loop-changed
decreases-loop-changed g l = work_left (cap_of (numbered l.g) (g.F.Family.state_count l.family) l.width) (block_count (numbered l.g)) l.rows l.dirty + cond l.changed 1 0
