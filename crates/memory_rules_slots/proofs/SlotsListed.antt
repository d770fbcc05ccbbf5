-- The slots among the values so far.
use Rattle.std.proofs.Common.{◌≡◌, ◌≢◌, ℕ, ◌+◌, ◌<◌, ◌≤◌, List, [], ◌∷◌, ◌++◌, length, take, get_or, sym, ap, ◌∙◌, subst, ◌⊎◌, inl, inr, true, false, arith}
use Rattle.std.specs.Prelude.{Contains, AllPairs, unwrap_or}
use Rattle.std.specs.List.{slice_get}
use Rattle.std.proofs.lemmas.Bool.{cases_eq, cases_lt}
use Rattle.std.proofs.lemmas.List.{get_or-take, length-take}
use Rattle.std.proofs.lemmas.List.Elements.{All-push, All-weaker, All-contains, All-from_get_or, All-get_or, Contains-push, Contains-append_left, Contains-get_or}
use Rattle.std.proofs.lemmas.List.Quantifiers.{all_pairs_push}
use Rattle.std.proofs.lemmas.Option.{slice_get_past}
use Rattle.sil_ast.specs.declared.place.ValueId.{ValueId}
use Rattle.memory_rules_accesses.specs.declared.source.Source.{Source}
use Rattle.memory_rules_accesses.specs.declared.source.Source.TheVariants as source
use Rattle.memory_rules_accesses.specs.Sources.{is_slot_source}
use Rattle.memory_rules_slots.specs.Pairs.{IsSlot}
use Rattle.memory_rules_slots.specs.inner.Searches.{AreSlots}

pub same_value : (a b : ValueId) → a.0 ≡ b.0 → a ≡ b
same_value a b e = ap (λ (n : ℕ). let v : ValueId = record { 0 = n } in v) e

true_not_false : true ≡ false → ⊥
true_not_false h = cc

pub slots_put : (sources : List Source) (n : ℕ) (slots : List ValueId) (s : ValueId) → s.0 ≡ n → IsSlot sources s → AreSlots sources n slots → AreSlots sources (n + 1) (slots ++ s ∷ [])
slots_put sources n slots s place is h = record {
  each = All-push (IsSlot sources) slots s h.each is;
  all = λ v lt slot. at v lt slot (cases_eq v.0 n);
  below = All-push (λ (v : ValueId). v.0 < n + 1) slots s (All-weaker (λ (v : ValueId). v.0 < n) (λ (v : ValueId). v.0 < n + 1) (λ v lt. omega arith) slots h.below) (omega arith);
  ascending =
      all_pairs_push (λ (a b : ValueId). a.0 < b.0) slots s h.ascending (λ k d lt. let less : (get_or slots k d).0 < n = All-get_or (λ (v : ValueId). v.0 < n) slots k d lt h.below in omega arith);
}
  where
    at : (v : ValueId) → v.0 < n + 1 → IsSlot sources v → (v.0 ≡ n) ⊎ (v.0 ≢ n) → Contains (slots ++ s ∷ []) v
    at v lt slot (inl e) = subst (Contains (slots ++ s ∷ [])) (same_value s v (place ∙ sym e)) (Contains-push slots s)
    at v lt slot (inr ne) = Contains-append_left slots (s ∷ []) v (h.all v (omega arith) slot)

pub slots_left : (sources : List Source) (n : ℕ) (slots : List ValueId) → is_slot_source (unwrap_or (slice_get sources n) source.Other) ≡ false → AreSlots sources n slots
    → AreSlots sources (n + 1) slots
slots_left sources n slots none h = record {
  each = h.each;
  all = λ v lt slot. at v lt slot (cases_eq v.0 n);
  below = All-weaker (λ (v : ValueId). v.0 < n) (λ (v : ValueId). v.0 < n + 1) (λ v lt. omega arith) slots h.below;
  ascending = h.ascending;
}
  where
    at : (v : ValueId) → v.0 < n + 1 → IsSlot sources v → (v.0 ≡ n) ⊎ (v.0 ≢ n) → Contains slots v
    at v lt slot (inl e) = absurd (true_not_false (sym slot ∙ ap (λ k. is_slot_source (unwrap_or (slice_get sources k) source.Other)) e ∙ none))
    at v lt slot (inr ne) = h.all v (omega arith) slot

-- the values past the end are no slots
pub slot_within : (sources : List Source) (v : ValueId) → IsSlot sources v → v.0 < length sources
slot_within sources v is = at (cases_lt v.0 (length sources))
  where
    at : (v.0 < length sources) ⊎ (length sources ≤ v.0) → v.0 < length sources
    at (inl lt) = lt
    at (inr le) = absurd (true_not_false (sym is ∙ ap (λ o. is_slot_source (unwrap_or o source.Other)) (slice_get_past sources v.0 le)))

-- a slot with a lesser number stands before
pub slot_before : (slots : List ValueId) (i : ℕ) (d a : ValueId) → i < length slots → AllPairs (λ a b. a.0 < b.0) slots → Contains slots a → a.0 < (get_or slots i d).0 → Contains (take i slots) a
slot_before slots i d a lt ascending there less = All-contains (λ (v : ValueId). v.0 < (get_or slots i d).0 → Contains (take i slots) v) slots a
    (All-from_get_or (λ (v : ValueId). v.0 < (get_or slots i d).0 → Contains (take i slots) v) slots d place) there less
  where
    place : (k : ℕ) → k < length slots → (get_or slots k d).0 < (get_or slots i d).0 → Contains (take i slots) (get_or slots k d)
    place k within e = at (cases_lt k i) (cases_lt i k)
      where
        at : (k < i) ⊎ (i ≤ k) → (i < k) ⊎ (k ≤ i) → Contains (take i slots) (get_or slots k d)
        at (inl l) m = subst (Contains (take i slots)) (get_or-take i slots k d l) (Contains-get_or (take i slots) k d (let size = length-take i slots in omega arith))
        at (inr l) (inl m) = absurd (let more : (get_or slots i d).0 < (get_or slots k d).0 = ascending i k d m within in omega arith)
        at (inr l) (inr m) = absurd (let same : i ≡ k = omega arith in let equal : (get_or slots i d).0 ≡ (get_or slots k d).0 = ap (λ n. (get_or slots n d).0) same in omega arith)
