use Rattle.std.proofs.Common.{◌≡◌, take, false}
use Rattle.memory_rules_slots.specs.inner.Touched.{has_slot}
use Rattle.memory_rules_slots.proofs.touched.has_slot.Given as goal

abbrev pub invariant-loop-access : goal.invariant-loop-access
invariant-loop-access l = has_slot l.slot (take l.access-index l.accesses) ≡ false
