use Rattle.std.proofs.Common.{◌<◌, length, take, All}
use Rattle.memory_rules_slots.specs.inner.Touched.{HasTouched}
use Rattle.memory_rules_slots.proofs.touched.touched_by.Given as goal

abbrev pub invariant-loop-access : goal.invariant-loop-access
invariant-loop-access l = record {
  below : All (λ p. p < length l.slots) l.places.items;
  all : HasTouched l.slots (take l.access-index l.accesses) l.places.items;
}
