-- The slots agree where one is made.
use Rattle.std.proofs.Common.{◌≡◌, ◌≤◌, ◌<◌, ◌+◌, ◌++◌, ◌⊎◌, inl, inr, ℕ, List, [], ◌∷◌, Some, true, false, length, refl, sym, ap, ◌∙◌, subst, arith}
use Rattle.std.specs.Prelude.{replicate, slice_get}
use Rattle.std.proofs.lemmas.List.{length-append, length-replicate, length_push, take-append-le}
use Rattle.std.proofs.lemmas.Option.{slice_get_within}
use Rattle.count_machine_model.specs.declared.machine_steps.address.OpenSlot.{OpenSlot}
use Rattle.count_machine_model.specs.ReadyCode.Layout.{size_of}
use Rattle.count_machine_model.specs.holder_model.RunTyping.StorageForms.{FieldShapeIs}
use Rattle.holder_model_values.specs.RunValues.Shapes.{Shape}
use Rattle.holder_model_values.specs.declared.run_values.leaf.Leaf.{Leaf}
use Rattle.holder_model_values.specs.declared.run_values.leaf.Leaf.TheVariants as leaf
use Rattle.sil_ast.specs.declared.decl.Storage.{Storage}
use Rattle.holder_model_values.specs.ValueParts.inner.Suits.{ClassTest}
use Rattle.count_machine_laws.proofs.LayoutsLists.{part_taken}
use Rattle.count_machine_laws.proofs.ObjectMade.{pushed_before, pushed_cases, pushed_last}
use Rattle.count_machine_laws.proofs.Slots.{Empty, Made, OpenIsRight, SlotsAgree, is_open}
use Rattle.count_machine_laws.proofs.Stack.{ContentSuits}

-- what holds of each of a list, and of one more, holds of each behind it
each_pushed : {A : Type 0} (P : ℕ → A → Type 0) (xs : List A) (y : A) → ((j : ℕ) (x : A) → slice_get xs j ≡ Some x → P j x) → P (length xs) y
    → (j : ℕ) (x : A) → slice_get (xs ++ y ∷ []) j ≡ Some x → P j x
each_pushed P xs y each here j x e = by (pushed_cases xs y j x e)
  where
    by : (slice_get xs j ≡ Some x) ⊎ (j ≡ length xs) × (y ≡ x) → P j x
    by (inl there) = each j x there
    by (inr last) = subst (λ n. P n x) (sym last.0) (subst (P (length xs)) last.1 here)

module _ {test : ClassTest} {made : List Made} {slots : List OpenSlot} {leaves : List Leaf} (agree : SlotsAgree test made slots leaves)
    (w : Storage) (s : Shape) (is : FieldShapeIs w s) (serial : ℕ) (next_one : serial ≡ length made) where
  abbrev new : Made
  new = record { shape = s; content = Empty }

  abbrev slot : OpenSlot
  slot = record { serial = serial; from = length leaves; is_full = false }

  abbrev made' : List Made
  made' = made ++ new ∷ []

  abbrev slots' : List OpenSlot
  slots' = slots ++ slot ∷ []

  abbrev leaves' : List Leaf
  leaves' = leaves ++ replicate (size_of s) leaf.Blank

  more_leaves : length leaves' ≡ length leaves + size_of s
  more_leaves = length-append leaves (replicate (size_of s) leaf.Blank) ∙ ap (λ n. length leaves + n) (length-replicate (size_of s) leaf.Blank)

  old_is_right : (j : ℕ) (next : OpenSlot) → slice_get slots j ≡ Some next → OpenIsRight made' slots' leaves' j next
  old_is_right j next e =
      let mine = agree.each j next e in
      let within = slice_get_within made next.serial mine.of mine.there in
      record {
        of = mine.of;
        there = pushed_before made new next.serial within ∙ mine.there;
        open_ = mine.open_;
        within = omega (arith, mine.within, more_leaves);
        before = each_pushed (λ i other. j < i → (next.serial < other.serial) × (next.from + size_of mine.of.shape ≤ other.from)) slots slot mine.before
            (λ later. (omega (arith, within, next_one), mine.within));
        full = mine.full;
        holds = λ v full. part_taken leaves' leaves (length leaves) next.from (size_of mine.of.shape)
            (take-append-le (length leaves) leaves (replicate (size_of s) leaf.Blank) (omega arith)) mine.within ∙ mine.holds v full;
      }

  new_is_right : OpenIsRight made' slots' leaves' (length slots) slot
  new_is_right = record {
    of = new;
    there = ap (slice_get made') next_one ∙ pushed_last made new;
    open_ = refl;
    within = omega (arith, more_leaves);
    before = λ i other e later. absurd (let within = slice_get_within slots' i other e in omega (arith, within, later, length_push slots slot));
    full = refl;
    holds = λ v full. absurd (cc);
  }

  open_found : (k : ℕ) (x : Made) → slice_get made k ≡ Some x → is_open x ≡ true → (j : ℕ) × (next : OpenSlot) × (slice_get slots' j ≡ Some next) × (next.serial ≡ k)
  open_found k x e opened =
      let old = agree.all k x e opened in
      (old.0, old.1, pushed_before slots slot old.0 (slice_get_within slots old.0 old.1 old.2) ∙ old.2, old.3)

  pub slots_agree_more : SlotsAgree test made' slots' leaves'
  slots_agree_more = record {
    each = each_pushed (OpenIsRight made' slots' leaves') slots slot old_is_right new_is_right;
    all = each_pushed (λ k x. is_open x ≡ true → (j : ℕ) × (next : OpenSlot) × (slice_get slots' j ≡ Some next) × (next.serial ≡ k)) made new open_found
        (λ opened. (length slots, slot, pushed_last slots slot, next_one));
    shapes = each_pushed (λ k x. (w : Storage) × FieldShapeIs w x.shape) made new agree.shapes (w, is);
    suit = λ k x v e full.
        each_pushed (λ k x. ContentSuits test x.shape x.content) made new (λ k x e v f. agree.suit k x v e f) (λ v full. absurd (cc)) k x e v full;
  }
