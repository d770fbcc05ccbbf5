use Rattle.std.proofs.Common.{take, All}
use Rattle.memory_rules_slots.specs.inner.Trust.{IsTrusted, Keeps}
use Rattle.memory_rules_slots.proofs.doubts.Doubts.add_each.Given as goal

abbrev pub invariant-loop-slot : goal.invariant-loop-slot
invariant-loop-slot l = record {
  keeps : Keeps l.initial.self l.self;
  added : All (λ a. IsTrusted l.self a → ⊥) (take l.slot-index l.slots);
}
