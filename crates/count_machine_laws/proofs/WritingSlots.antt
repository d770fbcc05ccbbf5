-- The slots agree where what one of them has changes, in the run and in the machine.
use Rattle.std.proofs.Common.{◌≡◌, ◌≤◌, ◌<◌, ◌+◌, ◌⊎◌, inl, inr, ℕ, zero, suc, List, [], ◌∷◌, Some, true, length, take, drop, refl, sym, ap, ◌∙◌, subst, arith}
use Rattle.std.specs.Prelude.{set, slice_get}
use Rattle.std.proofs.lemmas.Bool.{cases_eq, cases_lt}
use Rattle.std.proofs.lemmas.Option.{none-some, same_Some}
use Rattle.count_machine_model.specs.declared.machine_steps.address.OpenSlot.{OpenSlot}
use Rattle.count_machine_model.specs.ReadyCode.Layout.{size_of}
use Rattle.count_machine_model.specs.holder_model.RunTyping.StorageForms.{FieldShapeIs}
use Rattle.holder_model_values.specs.RunValues.Leaves.{leaves_of}
use Rattle.holder_model_values.specs.RunValues.Values.{Value}
use Rattle.holder_model_values.specs.declared.run_values.leaf.Leaf.{Leaf}
use Rattle.sil_ast.specs.declared.decl.Storage.{Storage}
use Rattle.holder_model_values.specs.ValueParts.inner.Suits.{ClassTest}
use Rattle.count_machine_laws.proofs.HeldSlots.{slot_right}
use Rattle.count_machine_laws.proofs.NumbersPut.{get_put_other, get_put_same}
use Rattle.count_machine_laws.proofs.Slots.{Content, Full, Made, OpenIsRight, SlotsAgree, is_full_content, is_open, is_open_content}
use Rattle.count_machine_laws.proofs.Stack.{ContentSuits}

-- the leaves with others in one stretch
pub record LeavesElsewhere (leaves leaves' : List Leaf) (from size : ℕ) : Type 0 where
  pub count : length leaves' ≡ length leaves
  pub apart : (i n : ℕ) → (i + n ≤ from) ⊎ (from + size ≤ i) → take n (drop i leaves') ≡ take n (drop i leaves)

get_put_here : {A : Type 0} (xs : List A) (k : ℕ) (x y : A) → slice_get xs k ≡ Some x → slice_get (set xs k y) k ≡ Some y
get_put_here [] k x y e = absurd (none-some x e)
get_put_here (z ∷ xs) zero x y e = refl
get_put_here (z ∷ xs) (suc k) x y e = get_put_here xs k x y e

-- what holds of each of a list, and of the one that is put, holds of each behind it
pub each_put : {A : Type 0} (P : ℕ → A → Type 0) (xs : List A) (k : ℕ) (y : A) → ((j : ℕ) (x : A) → slice_get xs j ≡ Some x → P j x) → P k y
    → (j : ℕ) (x : A) → slice_get (set xs k y) j ≡ Some x → P j x
each_put P xs k y each here j x e = by (cases_eq k j)
  where
    by : (k ≡ j) ⊎ (k ≡ j → ⊥) → P j x
    by (inl at) = subst (λ n. P n x) at (subst (P k) (get_put_same xs k y x (ap (slice_get (set xs k y)) at ∙ e)) here)
    by (inr other) = each j x (sym (get_put_other xs k j y other) ∙ e)

abbrev pub with_content : Made → Content → Made
with_content x c = record x { content = c }

module _ {test : ClassTest} {made : List Made} {slots : List OpenSlot} {leaves : List Leaf} (agree : SlotsAgree test made slots leaves)
    (index serial : ℕ) (of : Made) (slot : OpenSlot) (there : slice_get made serial ≡ Some of) (at : slice_get slots index ≡ Some slot) (same : slot.serial ≡ serial)
    (c : Content) (open_ : is_open_content c ≡ true) (suit : ContentSuits test of.shape c) (leaves' : List Leaf) (elsewhere : LeavesElsewhere leaves leaves' slot.from (size_of of.shape))
    (holds : (v : Value) → c ≡ Full v → take (size_of of.shape) (drop slot.from leaves') ≡ leaves_of of.shape v) where
  abbrev made' : List Made
  made' = set made serial (with_content of c)

  abbrev slot' : OpenSlot
  slot' = record slot { is_full = is_full_content c }

  abbrev slots' : List OpenSlot
  slots' = set slots index slot'

  -- a slot behind the change is one before it, with the same number and place
  was : (i : ℕ) (other : OpenSlot) → slice_get slots' i ≡ Some other → (o : OpenSlot) × (slice_get slots i ≡ Some o) × (o.serial ≡ other.serial) × (o.from ≡ other.from)
  was i other e = by (cases_eq index i)
    where
      by : (index ≡ i) ⊎ (index ≡ i → ⊥) → (o : OpenSlot) × (slice_get slots i ≡ Some o) × (o.serial ≡ other.serial) × (o.from ≡ other.from)
      by (inl here) =
          let is : slot' ≡ other = get_put_same slots index slot' other (ap (slice_get slots') here ∙ e) in
          (slot, ap (slice_get slots) (sym here) ∙ at, ap (λ s. s.serial) is, ap (λ s. s.from) is)
      by (inr elsewhere) = (other, sym (get_put_other slots index i slot' elsewhere) ∙ e, refl, refl)

  right : (right : OpenIsRight made slots leaves index slot) × (right.of ≡ of)
  right = slot_right agree index serial of slot there at same

  right_width : size_of right.0.of.shape ≡ size_of of.shape
  right_width = ap (λ x. size_of x.shape) right.1

  changed_is_right : (j : ℕ) (next : OpenSlot) → slice_get slots' j ≡ Some next → index ≡ j → OpenIsRight made' slots' leaves' j next
  changed_is_right j next e here =
      let is : slot' ≡ next = get_put_same slots index slot' next (ap (slice_get slots') here ∙ e) in
      subst (λ s. OpenIsRight made' slots' leaves' j s) is (record {
        of = with_content of c;
        there = ap (slice_get made') same ∙ get_put_here made serial of (with_content of c) there;
        open_ = open_;
        within = omega (arith, right.0.within, right_width, elsewhere.count);
        before = λ i other e' later.
            let old = was i other e' in
            let apart = right.0.before i old.0 old.1 (omega (arith, here, later)) in
            (omega (arith, apart.0, old.2), omega (arith, apart.1, old.3, right_width));
        full = refl;
        holds = λ v full. holds v full;
      })

  -- another slot has another number, and lies elsewhere
  others_apart : (j : ℕ) (next : OpenSlot) (mine : OpenIsRight made slots leaves j next) → slice_get slots j ≡ Some next → (index ≡ j → ⊥)
      → (serial ≡ next.serial → ⊥) × ((next.from + size_of mine.of.shape ≤ slot.from) ⊎ (slot.from + size_of of.shape ≤ next.from))
  others_apart j next mine old other = by (cases_lt index j)
    where
      by : (index < j) ⊎ (j ≤ index) → (serial ≡ next.serial → ⊥) × ((next.from + size_of mine.of.shape ≤ slot.from) ⊎ (slot.from + size_of of.shape ≤ next.from))
      by (inl before) =
          let apart = right.0.before j next old before in
          (λ e. absurd (omega (arith, apart.0, e, same)), inr (omega (arith, apart.1, right_width)))
      by (inr behind) =
          let later : j < index = omega (arith, behind, other) in
          let apart = mine.before index slot at later in
          (λ e. absurd (omega (arith, apart.0, e, same)), inl apart.1)

  others_are_right : (j : ℕ) (next : OpenSlot) → slice_get slots' j ≡ Some next → (index ≡ j → ⊥) → OpenIsRight made' slots' leaves' j next
  others_are_right j next e other =
      let old : slice_get slots j ≡ Some next = sym (get_put_other slots index j slot' other) ∙ e in
      let mine = agree.each j next old in
      let away = others_apart j next mine old other in
      record {
        of = mine.of;
        there = get_put_other made serial next.serial (with_content of c) away.0 ∙ mine.there;
        open_ = mine.open_;
        within = omega (arith, mine.within, elsewhere.count);
        before = λ i another e' later.
            let was_other = was i another e' in
            let apart = mine.before i was_other.0 was_other.1 later in
            (omega (arith, apart.0, was_other.2), omega (arith, apart.1, was_other.3));
        full = mine.full;
        holds = λ v full. elsewhere.apart next.from (size_of mine.of.shape) away.1 ∙ mine.holds v full;
      }

  open_found : (k : ℕ) (x : Made) → slice_get made' k ≡ Some x → is_open x ≡ true → (j : ℕ) × (next : OpenSlot) × (slice_get slots' j ≡ Some next) × (next.serial ≡ k)
  open_found k x e opened = by (cases_eq serial k)
    where
      by : (serial ≡ k) ⊎ (serial ≡ k → ⊥) → (j : ℕ) × (next : OpenSlot) × (slice_get slots' j ≡ Some next) × (next.serial ≡ k)
      by (inl at_serial) = (index, slot', get_put_here slots index slot slot' at, same ∙ at_serial)
      by (inr other) =
          let old = agree.all k x (sym (get_put_other made serial k (with_content of c) other) ∙ e) opened in
          let away : (index ≡ old.0 → ⊥) =
          λ e. other (sym same ∙ ap (λ s. s.serial) (same_Some slot old.1 (sym at ∙ ap (slice_get slots) e ∙ old.2)) ∙ old.3) in
          (old.0, old.1, get_put_other slots index old.0 slot' away ∙ old.2, old.3)

  right_behind : (j : ℕ) (next : OpenSlot) → slice_get slots' j ≡ Some next → OpenIsRight made' slots' leaves' j next
  right_behind j next e = by (cases_eq index j)
    where
      by : (index ≡ j) ⊎ (index ≡ j → ⊥) → OpenIsRight made' slots' leaves' j next
      by (inl here) = changed_is_right j next e here
      by (inr other) = others_are_right j next e other

  pub slots_agree_with : SlotsAgree test made' slots' leaves'
  slots_agree_with = record {
    each = right_behind;
    all = open_found;
    shapes = each_put (λ k x. (w : Storage) × FieldShapeIs w x.shape) made serial (with_content of c) agree.shapes (agree.shapes serial of there);
    suit = λ k x v e full. each_put (λ k x. ContentSuits test x.shape x.content) made serial (with_content of c) (λ k x e v f. agree.suit k x v e f) suit k x e v full;
  }
