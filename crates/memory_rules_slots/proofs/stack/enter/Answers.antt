use Rattle.std.proofs.Common.{◌≡◌, ◌∷◌, [], ◌++◌, ◌<◌, List, All, sym, ap, ◌∙◌, subst}
use Rattle.std.specs.declared.alloc.Global.{Global}
use Rattle.std.specs.declared.vec.Vec.{Vec}
use Rattle.sil_ast.specs.declared.place.ValueId.{ValueId}
use Rattle.memory_rules_accesses.specs.declared.access.Access.TheVariants.{Allocates}
use Rattle.memory_rules_slots.specs.declared.doubts.Doubts.{Doubts}
use Rattle.memory_rules_slots.specs.inner.Trust.{IsTrusted}
use Rattle.memory_rules_slots.specs.inner.Nesting.{rank_at, AreRising}
use Rattle.memory_rules_slots.specs.inner.Followed.{AreFollowed, IsTop}
use Rattle.memory_rules_slots.proofs.StackTops.{top_entered, alone, pushed}
use Rattle.memory_rules_slots.proofs.stack.enter.Goals as goal
use Rattle.memory_rules_slots.proofs.stack.enter.Goals.{then-not-is_above, else-not-is_above}

pub returns-then-is_top : goal.returns-then-is_top
returns-then-is_top c =
    top_entered c.args.sources.now c.args.ranks.now c.args.slot c.args.stack.now.items c.args.doubts.now
    (subst (λ (l : List ValueId). IsTop l c.args.slot) c.as_slice.ensures.value (c.is_top.ensures c.if-is_top.true))

pub returns : goal.returns
returns c =
    let old : List ValueId = c.args.stack.now.items in
    let new : c.push.new.self.items ≡ c.if-not-is_above.stack.items ++ c.args.slot ∷ [] = c.in_ok-push.ensures.items in
    let Is : List ValueId → Doubts → Type 0 = λ l d. AreFollowed c.args.sources.now c.args.ranks.now old (Allocates c.args.slot ∷ []) l c.args.doubts.now d in
    elim c.if-not-is_above.branch [
      | then-not-is_above w ↦
          let empty : c.if-not-is_above.stack.items ≡ [] = ap (λ (v : Vec ValueId Global). v.items) w.stack-is ∙ w.clear.ensures.items in
          subst (Is c.push.new.self.items) (sym w.doubts-is)
          (subst (λ l. Is l w.add_each.new.self) (sym (new ∙ ap (λ l. l ++ c.args.slot ∷ []) empty))
          (alone c.args.sources.now c.args.ranks.now c.args.slot old c.args.doubts.now w.add_each.new.self w.add_each.ensures.keeps
          (subst (λ (l : List ValueId). All (λ a. IsTrusted w.add_each.new.self a → ⊥) l) w.as_slice-then-not-is_above.ensures.value w.add_each.ensures.added)))
      | else-not-is_above w ↦
          let same : c.if-not-is_above.stack.items ≡ old = ap (λ (v : Vec ValueId Global). v.items) w.stack-is in
          subst (Is c.push.new.self.items) (sym w.doubts-is)
          (subst (λ l. Is l c.args.doubts.now) (sym (new ∙ ap (λ l. l ++ c.args.slot ∷ []) same))
          (pushed c.args.sources.now c.args.ranks.now c.args.slot old c.args.doubts.now
          (λ r. subst (λ (l : List ValueId). All (λ u. rank_at c.args.ranks.now u < rank_at c.args.ranks.now c.args.slot) l) c.as_slice-2.ensures.value
          (c.is_above.ensures w.if-not-is_above.false (subst (λ (l : List ValueId). AreRising c.args.ranks.now l) (sym c.as_slice-2.ensures.value) r)))))
    ]
