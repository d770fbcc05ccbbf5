-- A loop over the items of a graph asks of each item of its function what ends a value.
use Rattle.std.proofs.Common.{◌≡◌, ℕ, ◌+◌, ◌<◌, ◌≤◌, List, [], ◌∷◌, length, refl, sym, ap, ◌∙◌, ◌⊎◌, inl, inr, subst, Bool, true, false, Option, Some, arith}
use Rattle.std.specs.Prelude.{◌↔◌, ◌||◌, IsTrue, not}
use Rattle.std.specs.List.{list_any}
use Rattle.std.proofs.lemmas.Bool.{cases_lt}
use Rattle.std.proofs.lemmas.Option.{same_Some, slice_get_within}
use Rattle.sil_ast.specs.declared.function.Function.{Function}
use Rattle.sil_ast.specs.declared.place.ValueId.{ValueId}
use Rattle.sil_cfg.specs.Layout.{Layout, item_at, item_count}
use Rattle.sil_cfg.specs.declared.item.Item.{Item}
use Rattle.sil_cfg.specs.inner.Build.{IsGraphOf}
use Rattle.sil_cfg_items.specs.Parts.{item_inst}
use Rattle.ownership_kinds_chains.specs.declared.ownership_chains.facts.Facts.{Facts}
use Rattle.ownership_kinds_chains.specs.OwnershipMarks.Known.{AreKindsBy, Known, marks_at}
use Rattle.ownership_kinds_chains.specs.declared.ownership_marks.mark.Mark.{Mark}
use Rattle.ownership_kinds_chains.specs.declared.ownership_marks.mark.MarkSort.TheVariants.{End}
use Rattle.copy_pairing_model.specs.Removable.{IsOnlyDestroyed, is_destroy, is_mark}
use Rattle.copy_pairing_search.proofs.BorrowableCopies.ItemNumbers.{item_numbered}

-- the item with these marks doesn't end the value, or is a `destroy_value`
abbrev pub is_kept : Function → ValueId → Item → List Mark → Bool
is_kept f v item marks = not (list_any (is_mark End (v ∷ [])) marks) || is_destroy (item_inst f item)

-- each of the first items is so
abbrev pub AreKeptBefore : Function → Layout → Known → ValueId → ℕ → Type 0
AreKeptBefore f g k v n = (i : ℕ) (item : Item) → i < n → item_at g i ≡ Some item → is_kept f v item (marks_at k i) ≡ true

implied : (a b : Bool) → (not a || b) ≡ true → a ≡ true → b ≡ true
implied true b h e = h
implied false b h e = absurd (let wrong : false ≡ true = e in cc)

implies : (a b : Bool) → (not a || b) ≡ false → (a ≡ true → b ≡ true) → ⊥
implies true b h e = let wrong : true ≡ false = sym (e refl) ∙ h in cc
implies false b h e = let wrong : true ≡ false = h in cc

pub kept_more : (f : Function) (g : Layout) (k : Known) (v : ValueId) (n : ℕ) (here : Item) → AreKeptBefore f g k v n → item_at g n ≡ Some here → is_kept f v here (marks_at k n) ≡ true
    → AreKeptBefore f g k v (n + 1)
kept_more f g k v n here all at kept i item lt e = by (cases_lt i n)
  where
    by : (i < n) ⊎ (n ≤ i) → is_kept f v item (marks_at k i) ≡ true
    by (inl less) = all i item less e
    by (inr le) =
        let same : n ≡ i = omega arith in
        let item_same : here ≡ item = same_Some here item (sym at ∙ ap (item_at g) same ∙ e) in
        subst (λ x. is_kept f v x (marks_at k i) ≡ true) item_same (subst (λ x. is_kept f v here (marks_at k x) ≡ true) same kept)

module _ (f : Function) (g : Layout) (is : IsGraphOf g f) (k : Known) (v : ValueId) (count : ℕ) (facts : ValueId → Option Facts) (by : AreKindsBy count facts f g k) where
  pub all_destroys : (n : ℕ) → item_count g ≤ n → AreKeptBefore f g k v n → IsTrue true ↔ IsOnlyDestroyed facts f v
  all_destroys n le all = (λ t. each, λ h. refl)
    where
      each : IsOnlyDestroyed facts f v
      each item inside ends =
          let i = item_numbered g f is item inside in
          let within : i.0 < length g.kinds = slice_get_within g.kinds i.0 item i.1 in
          implied (list_any (is_mark End (v ∷ [])) (marks_at k i.0)) (is_destroy (item_inst f item)) (all i.0 item (omega arith) i.1)
          (ap (list_any (is_mark End (v ∷ []))) (by.marks_are i.0 item i.1) ∙ ends)

  pub one_consumes : (i : ℕ) (item : Item) → item_at g i ≡ Some item → is_kept f v item (marks_at k i) ≡ false → IsTrue false ↔ IsOnlyDestroyed facts f v
  one_consumes i item at not_kept = (
    λ t. absurd (let wrong : false ≡ true = t in cc),
    λ all. absurd
        (implies (list_any (is_mark End (v ∷ [])) (marks_at k i)) (is_destroy (item_inst f item)) not_kept
        (λ ends. all item (is.known i item at) (sym (ap (list_any (is_mark End (v ∷ []))) (by.marks_are i item at)) ∙ ends))),
  )
