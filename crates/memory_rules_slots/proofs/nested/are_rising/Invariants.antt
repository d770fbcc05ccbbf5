use Rattle.std.proofs.Common.{take}
use Rattle.memory_rules_slots.specs.inner.Nesting.{AreRising}
use Rattle.memory_rules_slots.proofs.nested.are_rising.Given as goal

abbrev pub invariant-loop-index : goal.invariant-loop-index
invariant-loop-index l = AreRising l.ranks (take l.index l.stack)
