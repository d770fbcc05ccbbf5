use Rattle.std.proofs.Common.{◌≡◌, ℕ, ◌<◌, length}
use Rattle.memory_rules_accesses.specs.reach_engine_marks.PathPatterns.inner.Reads.{accesses_at}
use Rattle.memory_rules_slots.specs.inner.Touched.{IsRising}
use Rattle.memory_rules_slots.specs.inner.Touched.{HasTouched}
use Rattle.memory_rules_slots.proofs.touched.touched_slots.Given as goal

abbrev pub invariant-loop-item : goal.invariant-loop-item
invariant-loop-item l = record {
  size : length l.places.items ≡ l.item-index;
  rising : (i : ℕ) → IsRising (length l.slots) (accesses_at l.places.items i);
  all : (i : ℕ) → i < l.item-index → HasTouched l.slots (accesses_at l.accesses i) (accesses_at l.places.items i);
}
