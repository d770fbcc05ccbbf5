use Rattle.memory_rules_slots.specs.inner.Searches.{AreSlots}
use Rattle.memory_rules_slots.proofs.slots.slots_of.Given as goal

abbrev pub invariant-loop-index : goal.invariant-loop-index
invariant-loop-index l = AreSlots l.sources l.index l.slots.items
