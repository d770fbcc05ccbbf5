use Rattle.std.proofs.Common.{◌≡◌, ℕ, List, sym, subst}
use Rattle.sil_ast.specs.declared.place.ValueId.{ValueId}
use Rattle.sil_cfg.specs.Flow.{edge_id, numbered}
use Rattle.memory_rules_accesses.specs.reach_engine_marks.PathPatterns.inner.Reads.{accesses_at}
use Rattle.memory_rules_slots.specs.inner.Nesting.{AreRising, Passes, stack_at, IsEdgeNested}
use Rattle.memory_rules_slots.proofs.NestedSlots.{block_nested}
use Rattle.memory_rules_slots.proofs.nested.follow_block.Goals as goal

pub follow_edges-requires-clause-rising : goal.follow_edges-requires-clause-rising
follow_edges-requires-clause-rising c =
    let Rises : List ValueId → Type 0 = λ l. AreRising c.args.ranks.now l in
    subst Rises (sym c.as_slice.ensures.value) (c.in_ok-follow_items-in-Some.ensures.rising (subst Rises (sym c.in_ok-last-in-Some.ensures.items) (c.are_rising.ensures c.if-not-are_rising.false)))

pub returns-in_ok-follow_edges-in-Some-clause-nested : goal.returns-in_ok-follow_edges-in-Some-clause-nested
returns-in_ok-follow_edges-in-Some-clause-nested c = λ a t.
    let sources = c.args.sources.now in
    let ranks = c.args.ranks.now in
    let accesses = accesses_at c.args.accesses.now in
    let Rises : List ValueId → Type 0 = λ l. AreRising ranks l in
    let new : List ValueId = c.follow_items.new.stack.items in
    let same : c.in_ok-last-in-Some.last.items ≡ c.in-Some.stack.now = c.in_ok-last-in-Some.ensures.items in
    let rising = subst Rises (sym same) (c.are_rising.ensures c.if-not-are_rising.false) in
    let passes = c.in_ok-follow_items-in-Some.ensures.passes rising a (c.in_ok-follow_edges-in-Some.ensures.keeps a t) in
    block_nested sources ranks accesses (numbered c.args.g.now) (stack_at c.args.stacks.now) c.args.block.0 c.in-Some.stack.now new a c.in-Some.ensures
    (subst (λ (l : List ℕ). Passes sources ranks accesses c.in-Some.stack.now l new a) c.items_of.ensures.items
    (subst (λ (l : List ValueId). Passes sources ranks accesses l c.items_of.result.now new a) same passes))
    (λ i is. subst (λ (l : List ValueId). IsEdgeNested sources ranks accesses (numbered c.args.g.now) (stack_at c.args.stacks.now) l (edge_id c.args.block.0 i) a) c.as_slice.ensures.value
    (c.in_ok-follow_edges-in-Some.ensures.nested a t i is))
