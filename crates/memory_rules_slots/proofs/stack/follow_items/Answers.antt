use Rattle.std.proofs.Common.{ℕ, List, [], ◌∷◌, sym, subst, take}
use Rattle.std.proofs.lemmas.Grind.{take_at_read}
use Rattle.memory_rules_accesses.specs.declared.access.Access.{Access}
use Rattle.memory_rules_accesses.specs.reach_engine_marks.PathPatterns.inner.Reads.{accesses_at}
use Rattle.memory_rules_slots.specs.inner.Followed.{AreFollowed, ArePassed}
use Rattle.memory_rules_slots.proofs.StackTops.{passed_item, passed_more}
use Rattle.memory_rules_slots.proofs.stack.follow_items.Goals as goal

pub loop-item-preserved : goal.loop-item-preserved
loop-item-preserved c =
    let one = passed_item c.args.sources.now c.args.ranks.now (accesses_at c.args.accesses.now) c.loop-item.stack.items c.follow_all.new.stack.items _ c.loop-item.doubts c.follow_all.new.doubts
    (subst (λ (l : List Access). AreFollowed c.args.sources.now c.args.ranks.now c.loop-item.stack.items l c.follow_all.new.stack.items c.loop-item.doubts c.follow_all.new.doubts)
    c.accesses_of_item.ensures c.in_ok-follow_all.ensures) in
    let P : List ℕ → Type 0 =
    λ l. ArePassed c.args.sources.now c.args.ranks.now (accesses_at c.args.accesses.now) c.args.stack.now.items l c.follow_all.new.stack.items c.args.doubts.now c.follow_all.new.doubts in
    subst P (sym (take_at_read c.args.items.now c.loop-item.item-index _ c.loop-item-test.true).1)
    (passed_more c.args.sources.now c.args.ranks.now (accesses_at c.args.accesses.now) c.args.stack.now.items c.loop-item.stack.items c.follow_all.new.stack.items
    (take c.loop-item.item-index c.args.items.now) (_ ∷ []) c.args.doubts.now c.loop-item.doubts c.follow_all.new.doubts c.loop-item.invariant one)
