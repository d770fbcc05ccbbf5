use Rattle.std.proofs.Common.{◌≡◌, ℕ, ◌<◌, length, get_or}
use Rattle.memory_rules_slots.proofs.touched.all_places.Given as goal

abbrev pub invariant-loop-place : goal.invariant-loop-place
invariant-loop-place l = record {
  size : length l.places.items ≡ l.place;
  each : (k d : ℕ) → k < l.place → get_or l.places.items k d ≡ k;
}
