use Rattle.std.proofs.Common.{◌≡◌, length}
use Rattle.reach_engine.specs.inner.Effects.{Applied}
use Rattle.reach_engine.proofs.effect.apply.Given as goal

abbrev pub invariant-loop-state : goal.invariant-loop-state
invariant-loop-state l = record {
  size : length l.rows ≡ length l.initial.rows;
  bad_size : length l.bad ≡ length l.initial.bad;
  applied : Applied l.states l.width l.effects l.from l.bundle l.rows l.initial.bad l.bad l.state;
}
