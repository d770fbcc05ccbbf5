use Rattle.std.proofs.Common.{List, [], ◌∷◌, sym, subst, take}
use Rattle.std.proofs.lemmas.Grind.{take_at_read}
use Rattle.memory_rules_accesses.specs.declared.access.Access.{Access}
use Rattle.memory_rules_slots.specs.inner.Followed.{AreFollowed}
use Rattle.memory_rules_slots.proofs.StackTops.{followed_more}
use Rattle.memory_rules_slots.proofs.stack.follow_all.Goals as goal

pub loop-access-preserved : goal.loop-access-preserved
loop-access-preserved c =
    let P : List Access → Type 0 = λ l. AreFollowed c.args.sources.now c.args.ranks.now c.args.stack.now.items l c.follow.new.stack.items c.args.doubts.now c.follow.new.doubts in
    subst P (sym (take_at_read c.args.accesses.now c.loop-access.access-index _ c.loop-access-test.true).1)
    (followed_more c.args.sources.now c.args.ranks.now c.args.stack.now.items c.loop-access.stack.items c.follow.new.stack.items (take c.loop-access.access-index c.args.accesses.now) (_ ∷ [])
    c.args.doubts.now c.loop-access.doubts c.follow.new.doubts c.loop-access.invariant c.in_ok-follow.ensures)
