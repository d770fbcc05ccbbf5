use Rattle.std.proofs.Common.{◌≡◌, ◌≢◌, ◌+◌, ◌<◌, ◌≤◌, ℕ, List, [], ◌∷◌, ◌++◌, length, sym, ap, ◌∙◌, subst, ◌⊎◌, inl, inr, arith}
use Rattle.std.specs.declared.vec.Vec.{Vec}
use Rattle.std.specs.declared.alloc.Global.{Global}
use Rattle.std.proofs.lemmas.Bool.{cases_eq, cases_lt}
use Rattle.sil_cfg.proofs.Gets.{length_push}
use Rattle.memory_rules_accesses.specs.reach_engine_marks.PathPatterns.inner.Reads.{accesses_at}
use Rattle.memory_rules_slots.specs.inner.Touched.{IsRising}
use Rattle.memory_rules_accesses.proofs.reach_engine_marks.PathChecks.Accesses.{accesses_there, accesses_past, accesses_kept, accesses_last, accesses_more, accesses_each}
use Rattle.memory_rules_slots.proofs.Rising.{rising_none}
use Rattle.memory_rules_accesses.specs.declared.access.Access.{Access}
use Rattle.memory_rules_slots.specs.inner.Touched.{HasTouched}
use Rattle.memory_rules_slots.proofs.SlotsTouched.{touched_none}
use Rattle.memory_rules_slots.proofs.touched.touched_slots.Goals as goal

rising_push : (count : ℕ) (touched : List (Vec ℕ Global)) (x : Vec ℕ Global) → ((i : ℕ) → IsRising count (accesses_at touched i)) → IsRising count x.items → (i : ℕ)
    → IsRising count (accesses_at (touched ++ x ∷ []) i)
rising_push count touched x h is i = at (cases_lt i (length touched)) (cases_eq i (length touched))
  where
    at : (i < length touched) ⊎ (length touched ≤ i) → (i ≡ length touched) ⊎ (i ≢ length touched) → IsRising count (accesses_at (touched ++ x ∷ []) i)
    at (inl lt) e = subst (IsRising count) (sym (accesses_kept touched x i lt)) (h i)
    at (inr le) (inl e) = subst (IsRising count) (sym (accesses_last touched x i e)) is
    at (inr le) (inr n) = let past : length (touched ++ x ∷ []) ≤ i = (let l : length (touched ++ x ∷ []) ≡ length touched + 1 = length_push touched x in omega arith) in
        subst (IsRising count) (sym (accesses_past (touched ++ x ∷ []) i past)) (rising_none count)

pub loop-item-preserved : goal.loop-item-preserved
loop-item-preserved c =
    let here : accesses_at c.args.accesses.now c.loop-item.item-index ≡ c.as_slice.result.now =
    accesses_there c.args.accesses.now c.loop-item.item-index c.item-item.result (omega arith) c.item-item.is ∙ sym c.as_slice.ensures.value in
    let new : c.push.new.self.items ≡ c.loop-item.places.items ++ c.in_ok-touched_by.field-0 ∷ [] = c.in_ok-push.ensures.items in
    let P : List (Vec ℕ Global) → Type 0 = λ v. (i : ℕ) → IsRising (length c.args.slots.now) (accesses_at v i) in
    let Q : List (Vec ℕ Global) → Type 0 = λ v. (i : ℕ) → i < c.loop-item.item-index + 1 → HasTouched c.args.slots.now (accesses_at c.args.accesses.now i) (accesses_at v i) in
    let R : List Access → Type 0 = λ v. HasTouched c.args.slots.now v c.in_ok-touched_by.field-0.items in
    record {
      size = ap length new ∙ length_push c.loop-item.places.items c.in_ok-touched_by.field-0 ∙ ap (λ n. n + 1) c.loop-item.invariant.size;
      rising = subst P (sym new) (rising_push (length c.args.slots.now) c.loop-item.places.items c.in_ok-touched_by.field-0 c.loop-item.invariant.rising c.in_ok-touched_by.ensures.rising);
      all = subst Q (sym new) (accesses_more (HasTouched c.args.slots.now) c.args.accesses.now c.loop-item.places.items c.item-item.result c.in_ok-touched_by.field-0 c.loop-item.item-index
          c.loop-item.invariant.size (here ∙ c.as_slice.ensures.value)
          c.loop-item.invariant.all (subst R c.as_slice.ensures.value c.in_ok-touched_by.ensures.all));
    }

pub returns-clause-all : goal.returns-clause-all
returns-clause-all c = accesses_each (HasTouched c.args.slots.now) c.args.accesses.now c.loop-item.places.items (c.loop-item.invariant.size ∙ omega arith)
    (λ i lt. c.loop-item.invariant.all i (omega arith)) (touched_none c.args.slots.now [])
