-- The slot wasn't idle before, since its object lived.
use Rattle.std.proofs.Common.{◌≡◌, ◌<◌, false, length, arith}
use Rattle.weak_unowned.specs.Sides.{sides_at}
use Rattle.weak_unowned.proofs.Idle.{has_room, taken_alive}
use Rattle.weak_unowned.proofs.side_counts.SideCounts.mark.Goals as goal

pub push_reserved-requires : goal.push_reserved-requires
push_reserved-requires c =
    let slots = c.self.inside.slots.items in
    let there : c.args.o < length slots = rw c.self.view_is c.requires.there in
    let alive : (sides_at slots c.args.o).marked ≡ false = rw c.self.view_is c.requires.alive in
    omega (arith, has_room slots c.args.o there (taken_alive (sides_at slots c.args.o) alive), c.self.invariant.0.count, c.self.invariant.1)
