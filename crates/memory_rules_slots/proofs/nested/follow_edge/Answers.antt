use Rattle.std.proofs.Common.{◌≡◌, ℕ, List, [], ◌∷◌, refl, sym, ap, subst}
use Rattle.sil_ast.specs.declared.place.ValueId.{ValueId}
use Rattle.sil_cfg.specs.Flow.{edge_item, edge_to, numbered}
use Rattle.memory_rules_accesses.specs.reach_engine_marks.PathPatterns.inner.Reads.{accesses_at}
use Rattle.memory_rules_slots.specs.inner.Nesting.{AreRising, Meets, Passes, stack_at}
use Rattle.memory_rules_slots.proofs.NestedSlots.{edge_nested}
use Rattle.memory_rules_slots.proofs.nested.follow_edge.Goals as goal

pub returns-clause-nested : goal.returns-clause-nested
returns-clause-nested c = λ a t.
    let sources = c.args.sources.now in
    let ranks = c.args.ranks.now in
    let accesses = accesses_at c.args.accesses.now in
    let new : List ValueId = c.follow_items.new.stack.items in
    let same : c.in_ok-last.last.items ≡ c.args.stack.now = c.in_ok-last.ensures.items in
    let passes = c.in_ok-follow_items.ensures.passes (subst (λ (l : List ValueId). AreRising ranks l) (sym same) c.requires.rising) a (c.meet.ensures.keeps a t) in
    let item : c.edge_item.result ∷ [] ≡ edge_item (numbered c.args.g.now) c.args.edge ∷ [] = ap (λ i. i ∷ []) c.edge_item.ensures.item in
    edge_nested sources ranks accesses (numbered c.args.g.now) (stack_at c.args.stacks.now) c.args.stack.now new c.args.edge a
    (stack_at c.args.stacks.now (edge_to (numbered c.args.g.now) c.args.edge)) refl
    (subst (λ (b : ℕ). Meets new (stack_at c.args.stacks.now b) a) c.edge_to.ensures.to
    (subst (λ (l : List ValueId). Meets l (stack_at c.args.stacks.now c.edge_to.result.0) a) c.as_slice.ensures.value (c.meet.ensures.meets a t)))
    (subst (λ (l : List ℕ). Passes sources ranks accesses c.args.stack.now l new a) item (subst (λ (l : List ValueId). Passes sources ranks accesses l (c.edge_item.result ∷ []) new a) same passes))
