use Rattle.std.proofs.Common.{◌++◌, ◌∷◌, [], length-set, refl, ap, ◌∙◌, arith}
use Rattle.std.specs.Prelude.{set}
use Rattle.std.proofs.lemmas.List.{get_or_default}
use Rattle.weak_unowned.specs.Sides.{no_sides, unmarked}
use Rattle.weak_unowned.specs.inner.IdleSlots.{AreIdleSlots}
use Rattle.weak_unowned.proofs.Idle.{idle_is_there, idle_no_more, last_is_idle}
use Rattle.weak_unowned.proofs.side_counts.SideCounts.take_idle.Goals as goal

pub index_mut-slot-requires : goal.index_mut-slot-requires
index_mut-slot-requires c =
    let slots = c.self.inside.slots.items in
    let are : AreIdleSlots slots (c.pop.new.self.items ++ c.in-Some.o ∷ []) = rw (← c.in-Some.ensures.items) c.self.invariant.0 in
    omega (arith, idle_is_there slots c.in-Some.o (last_is_idle slots c.pop.new.self.items c.in-Some.o are))

pub invariant_of-self : goal.invariant_of-self
invariant_of-self c =
    let slots = c.self.inside.slots.items in
    let are : AreIdleSlots slots (c.pop.new.self.items ++ c.in-Some.o ∷ []) = rw (← c.in-Some.ensures.items) c.self.invariant.0 in
    let idle = last_is_idle slots c.pop.new.self.items c.in-Some.o are in
    (idle_no_more slots c.in-Some.o _ (idle_is_there slots c.in-Some.o idle) c.pop.new.self.items are idle refl, rw length-set (omega (arith, c.self.invariant.1, c.in-Some.ensures.capacity)))

pub returns-in-Some-clause-some : goal.returns-in-Some-clause-some
returns-in-Some-clause-some c =
    let slots = c.self.inside.slots.items in
    let are : AreIdleSlots slots (c.pop.new.self.items ++ c.in-Some.o ∷ []) = rw (← c.in-Some.ensures.items) c.self.invariant.0 in
    let idle = last_is_idle slots c.pop.new.self.items c.in-Some.o are in
    let there = idle_is_there slots c.in-Some.o idle in
    let kept = c.index_mut-slot.ensures.value ∙ get_or_default slots c.in-Some.o c.index_mut-slot.result.now no_sides there in
    rw (← c.self.view_is) (there, idle, ap (λ s. set slots c.in-Some.o (unmarked s)) kept)
