use Rattle.std.proofs.Common.{◌≡◌, ◌*◌, length, take}
use Rattle.reach_engine.specs.inner.Columns.{AllMoved}
use Rattle.reach_engine.proofs.bundle.pass_all.Given as goal

abbrev pub invariant-loop-item : goal.invariant-loop-item
invariant-loop-item g l = record {
  size : length l.bundle ≡ g.F.Family.state_count l.family * l.width;
  bad_size : length l.bad ≡ l.width;
  moved : AllMoved (g.F.Family.step_of l.family) (g.F.Family.state_count l.family) (g.F.Family.subject_count l.family) l.width (take l.item-index l.items) l.fn.bundle l.bundle l.fn.bad l.bad;
}
