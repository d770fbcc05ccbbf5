use Rattle.std.proofs.Common.{◌≡◌, ℕ, ◌≤◌}
use Rattle.reach_engine.specs.inner.Bits.{bit_in}
use Rattle.reach_engine.proofs.ColumnTaken.{Taking}
use Rattle.reach_engine.proofs.bundle.take_column.Given as goal

abbrev pub invariant-loop-state : goal.invariant-loop-state
invariant-loop-state l = record {
  taking : Taking l.states l.width l.subject l.initial.bundle l.bundle l.taken l.state;
  off : (s : ℕ) → l.state ≤ s → bit_in l.taken s ≡ 0;
}
