-- The slots agree where the newest one goes.
use Rattle.std.proofs.Common.{◌≡◌, ◌<◌, ◌+◌, ◌⊎◌, inl, inr, ℕ, zero, suc, List, [], ◌∷◌, Some, true, length, take, refl, sym, ap, ◌∙◌, arith}
use Rattle.std.specs.Prelude.{set, slice_get}
use Rattle.std.proofs.lemmas.Bool.{cases_eq, false≢true}
use Rattle.std.proofs.lemmas.List.{length-take-le, take-take}
use Rattle.std.proofs.lemmas.Option.{none-some, same_Some, slice_get_within}
use Rattle.count_machine_model.specs.declared.machine_steps.address.OpenSlot.{OpenSlot}
use Rattle.count_machine_model.specs.ReadyCode.Layout.{size_of}
use Rattle.count_machine_model.specs.holder_model.RunTyping.StorageForms.{FieldShapeIs}
use Rattle.holder_model_values.specs.declared.run_values.leaf.Leaf.{Leaf}
use Rattle.sil_ast.specs.declared.decl.Storage.{Storage}
use Rattle.holder_model_values.specs.ValueParts.inner.Suits.{ClassTest}
use Rattle.count_machine_laws.proofs.HeldSlots.{slot_right}
use Rattle.count_machine_laws.proofs.LayoutsLists.{get_take, part_taken}
use Rattle.count_machine_laws.proofs.NumbersPut.{get_put_other, get_put_same}
use Rattle.count_machine_laws.proofs.Slots.{Gone, Made, OpenIsRight, SlotsAgree, is_open}
use Rattle.count_machine_laws.proofs.Stack.{ContentSuits}
use Rattle.count_machine_laws.proofs.WritingSlots.{each_put, with_content}

-- what is there among the first so many
taken_there : {A : Type 0} (xs : List A) (n j : ℕ) (x : A) → slice_get (take n xs) j ≡ Some x → (j < n) × (slice_get xs j ≡ Some x)
taken_there xs zero j x e = absurd (none-some x e)
taken_there [] (suc n) j x e = absurd (none-some x e)
taken_there (y ∷ xs) (suc n) zero x e = (omega arith, e)
taken_there (y ∷ xs) (suc n) (suc j) x e = let deeper = taken_there xs n j x e in (omega (arith, deeper.0), deeper.1)

module _ {test : ClassTest} {made : List Made} {slots : List OpenSlot} {leaves : List Leaf} (agree : SlotsAgree test made slots leaves)
    (index : ℕ) (of : Made) (slot : OpenSlot) (there : slice_get made slot.serial ≡ Some of) (at : slice_get slots index ≡ Some slot) (last : index + 1 ≡ length slots) where
  abbrev gone : Made
  gone = with_content of Gone

  abbrev made' : List Made
  made' = set made slot.serial gone

  abbrev slots' : List OpenSlot
  slots' = take index slots

  abbrev leaves' : List Leaf
  leaves' = take slot.from leaves

  right : (right : OpenIsRight made slots leaves index slot) × (right.of ≡ of)
  right = slot_right agree index slot.serial of slot there at refl

  left_count : length leaves' ≡ slot.from
  left_count = length-take-le slot.from leaves (omega (arith, right.0.within))

  right_behind : (j : ℕ) (next : OpenSlot) → slice_get slots' j ≡ Some next → OpenIsRight made' slots' leaves' j next
  right_behind j next e =
      let old = taken_there slots index j next e in
      let mine = agree.each j next old.1 in
      let apart = mine.before index slot at old.0 in
      record {
        of = mine.of;
        there = get_put_other made slot.serial next.serial gone (λ same. absurd (omega (arith, apart.0, same))) ∙ mine.there;
        open_ = mine.open_;
        within = omega (arith, apart.1, left_count);
        before = λ i other e' later. mine.before i other (taken_there slots index i other e').1 later;
        full = mine.full;
        holds = λ v full. part_taken leaves' leaves slot.from next.from (size_of mine.of.shape) (take-take slot.from slot.from leaves (omega arith)) apart.1 ∙ mine.holds v full;
      }

  open_found : (k : ℕ) (x : Made) → slice_get made' k ≡ Some x → is_open x ≡ true → (j : ℕ) × (next : OpenSlot) × (slice_get slots' j ≡ Some next) × (next.serial ≡ k)
  open_found k x e opened = by (cases_eq slot.serial k)
    where
      by : (slot.serial ≡ k) ⊎ (slot.serial ≡ k → ⊥) → (j : ℕ) × (next : OpenSlot) × (slice_get slots' j ≡ Some next) × (next.serial ≡ k)
      by (inl here) = absurd (false≢true (ap is_open (get_put_same made slot.serial gone x (ap (slice_get made') here ∙ e)) ∙ opened))
      by (inr other) =
          let old = agree.all k x (sym (get_put_other made slot.serial k gone other) ∙ e) opened in
          let away : (index ≡ old.0 → ⊥) = λ e. other (ap (λ s. s.serial) (same_Some slot old.1 (sym at ∙ ap (slice_get slots) e ∙ old.2)) ∙ old.3) in
          let within = slice_get_within slots old.0 old.1 old.2 in
          (old.0, old.1, get_take slots index old.0 (omega (arith, within, last, away)) ∙ old.2, old.3)

  pub slots_agree_without : SlotsAgree test made' slots' leaves'
  slots_agree_without = record {
    each = right_behind;
    all = open_found;
    shapes = each_put (λ k x. (w : Storage) × FieldShapeIs w x.shape) made slot.serial gone agree.shapes (agree.shapes slot.serial of there);
    suit = λ k x v e full.
        each_put (λ k x. ContentSuits test x.shape x.content) made slot.serial gone (λ k x e v f. agree.suit k x v e f) (λ v full. absurd (cc)) k x e v full;
  }
