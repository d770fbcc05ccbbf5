use Rattle.std.proofs.Common.{◌∷◌, [], length-append, arith}
use Rattle.weak_unowned.proofs.Idle.{one_more_slot}
use Rattle.weak_unowned.specs.Sides.{no_sides}
use Rattle.weak_unowned.specs.inner.IdleSlots.{AreIdleSlots}
use Rattle.weak_unowned.proofs.side_counts.SideCounts.add_slot.Goals as goal

pub invariant_of-self-2 : goal.invariant_of-self-2
invariant_of-self-2 c =
    let slots = c.self.inside.slots.items in
    let are : AreIdleSlots slots c.reserve.new.self.items = rw c.in_ok-reserve.ensures.items c.self.invariant.0 in
    rw c.in_ok-push.ensures.items (one_more_slot slots c.reserve.new.self.items are, omega (arith, length-append slots (no_sides ∷ []), c.in_ok-reserve.ensures.ok, c.self.invariant.0.count))
