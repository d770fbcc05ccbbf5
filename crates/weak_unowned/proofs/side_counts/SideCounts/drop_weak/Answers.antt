-- The slot wasn't idle before, since a place named its object.
use Rattle.std.proofs.Common.{◌<◌, ◌≤◌, length, length-set, sym, ◌∙◌, arith}
use Rattle.weak_unowned.specs.Sides.{sides_at}
use Rattle.weak_unowned.proofs.Idle.{has_room, still_idle, taken_weakly}
use Rattle.weak_unowned.proofs.side_counts.SideCounts.drop_weak.Goals as goal

pub push_reserved-requires : goal.push_reserved-requires
push_reserved-requires c =
    let slots = c.self.inside.slots.items in
    let there : c.args.o < length slots = rw c.self.view_is c.requires.there in
    let some : 1 ≤ (sides_at slots c.args.o).weak = rw c.self.view_is c.requires.count in
    omega (arith, has_room slots c.args.o there (taken_weakly (sides_at slots c.args.o) some), c.self.invariant.0.count, c.self.invariant.1)

pub invariant_of-self-else-is_idle : goal.invariant_of-self-else-is_idle
invariant_of-self-else-is_idle c =
    let slots = c.self.inside.slots.items in
    let there : c.args.o < length slots = rw c.self.view_is c.requires.there in
    let some : 1 ≤ (sides_at slots c.args.o).weak = rw c.self.view_is c.requires.count in
    let same = sym c.is_idle.ensures ∙ c.if-is_idle.false ∙ sym (taken_weakly (sides_at slots c.args.o) some) in
    (still_idle slots c.args.o _ there _ c.self.invariant.0 same, simp length-set c.self.invariant.1)
