use Rattle.std.proofs.Common.{◌≡◌, ℕ, ◌<◌, ◌≤◌, length}
use Rattle.reach_engine.specs.inner.Bits.{bit_in}
use Rattle.reach_engine.proofs.rows.seed.Given as goal

abbrev pub invariant-loop-k : goal.invariant-loop-k
invariant-loop-k l = record {
  size : length l.rows ≡ length l.initial.rows;
  done : (j : ℕ) → j < l.k → bit_in l.rows j ≡ 1;
  rest : (j : ℕ) → l.k ≤ j → bit_in l.rows j ≡ 0;
}
