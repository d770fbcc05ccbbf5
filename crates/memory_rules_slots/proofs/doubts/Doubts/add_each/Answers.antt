use Rattle.std.proofs.Common.{take}
use Rattle.std.proofs.lemmas.List.Elements.{All-more, All-weaker}
use Rattle.memory_rules_slots.specs.inner.Trust.{IsTrusted}
use Rattle.memory_rules_slots.proofs.doubts.Doubts.add_each.Goals as goal

pub loop-slot-preserved : goal.loop-slot-preserved
loop-slot-preserved c = record {
  keeps = λ v t. c.loop-slot.invariant.keeps v (c.add.ensures.keeps v t);
  added = All-more (λ a. IsTrusted c.add.new.self a → ⊥) c.args.slots.now c.loop-slot.slot-index _ c.loop-slot-test.true
      (All-weaker (λ a. IsTrusted c.loop-slot.self a → ⊥) (λ a. IsTrusted c.add.new.self a → ⊥) (λ a no t. no (c.add.ensures.keeps a t)) (take c.loop-slot.slot-index c.args.slots.now)
      c.loop-slot.invariant.added)
      c.add.ensures.added;
}
