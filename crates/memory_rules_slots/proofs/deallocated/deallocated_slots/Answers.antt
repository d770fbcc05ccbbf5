use Rattle.std.proofs.Common.{◌≡◌, ◌≢◌, ◌+◌, ◌<◌, ◌≤◌, ℕ, List, length, sym, ap, ◌∙◌, subst, ◌⊎◌, inl, inr, All, arith}
use Rattle.std.proofs.lemmas.Bool.{cases_eq, cases_lt}
use Rattle.std.proofs.lemmas.List.Elements.{All-nil}
use Rattle.sil_ast.specs.declared.place.ValueId.{ValueId}
use Rattle.memory_rules_accesses.specs.reach_engine_marks.PathPatterns.inner.Reads.{accesses_at}
use Rattle.memory_rules_accesses.proofs.reach_engine_marks.PathChecks.Accesses.{accesses_there, accesses_past}
use Rattle.memory_rules_accesses.specs.declared.access.Access.{Access}
use Rattle.memory_rules_accesses.specs.declared.access.Access.TheVariants.{Deallocates}
use Rattle.memory_rules_slots.specs.inner.Trust.{IsTrusted}
use Rattle.memory_rules_slots.proofs.deallocated.deallocated_slots.Goals as goal

pub loop-item-preserved : goal.loop-item-preserved
loop-item-preserved c = λ v t i lt. at v t i lt (cases_eq i c.loop-item.item-index)
  where
    here : accesses_at c.args.accesses.now c.loop-item.item-index ≡ c.as_slice.result.now
    here = accesses_there c.args.accesses.now c.loop-item.item-index c.item-item.result (omega arith) c.item-item.is ∙ sym c.as_slice.ensures.value

    at : (v : ValueId) → IsTrusted c.add_deallocated.new.found v → (i : ℕ) → i < c.loop-item.item-index + 1 → (i ≡ c.loop-item.item-index) ⊎ (i ≢ c.loop-item.item-index)
        → All (λ x. x ≢ Deallocates v) (accesses_at c.args.accesses.now i)
    at v t i lt (inl e) = subst (λ (l : List Access). All (λ x. x ≢ Deallocates v) l) (sym (ap (accesses_at c.args.accesses.now) e ∙ here)) (c.add_deallocated.ensures.added v t)
    at v t i lt (inr ne) = c.loop-item.invariant v (c.add_deallocated.ensures.keeps v t) i (omega arith)

pub returns : goal.returns
returns c = λ v t i. at v t i (cases_lt i (length c.args.accesses.now))
  where
    at : (v : ValueId) → IsTrusted c.loop-item.found v → (i : ℕ) → (i < length c.args.accesses.now) ⊎ (length c.args.accesses.now ≤ i)
        → All (λ x. x ≢ Deallocates v) (accesses_at c.args.accesses.now i)
    at v t i (inl lt) = c.loop-item.invariant v t i (omega arith)
    at v t i (inr le) = subst (λ (l : List Access). All (λ x. x ≢ Deallocates v) l) (sym (accesses_past c.args.accesses.now i le)) (All-nil (λ x. x ≢ Deallocates v))
