-- What is told of the objects that are left has all strong numbers: an object that is freed has none.
use Rattle.std.proofs.Common.{◌≡◌, ℕ, suc, ◌+◌, List, [], ◌∷◌, length, arith, refl, sym, ap, ◌∙◌, subst, Bool, true, false, not, ◌||◌, cond, Option, Some, None, slice_get, unwrap_or, filter_map}
use Rattle.std.specs.List.{cons_option, range_with_len}
use Rattle.std.proofs.lemmas.List.Sums.{sum_by-cons}
use Rattle.sil_ast.specs.declared.place.ObjectId.{ObjectId}
use Rattle.holder_model.specs.holder_model_values.RunValues.Memory.{Memory, is_dead}
use Rattle.holder_model.specs.Outcomes.{Numbers, is_named, left_object, left_objects, object_number, unfreed}
use Rattle.holder_model.specs.declared.left_object.LeftObject.{LeftObject}
use Rattle.holder_model.specs.LoweredRun.Stored.{no_numbers, numbers_of}
use Rattle.holder_model_laws.specs.ReferenceTotals.inner.Totals.{AreTotalsLeft, AreTotalsOf, come_to, strong_sum, strong_told}
use Rattle.holder_model_laws.proofs.ReferenceTotals.Kept.{totals_stored}

abbrev told_strong : LeftObject → ℕ
told_strong x = x.strong

abbrev strong_of : Numbers → ℕ
strong_of n = n.strong

-- numbers of objects, of which those that are dead have no strong one
module _ (memory : Memory) (numbers : ObjectId → Numbers) (dead : (o : ObjectId) → is_dead memory o ≡ true → (numbers o).strong ≡ 0) where
  abbrev told_at : ℕ → Option LeftObject
  told_at k = unfreed memory (object_number k) (numbers (object_number k))

  abbrev told_as : ℕ → LeftObject
  told_as k = left_object memory (object_number k) (numbers (object_number k))

  -- an object is told with its strong number, or has none
  one_told : (k : ℕ) (rest : List LeftObject) → strong_told (cons_option (told_at k) rest) ≡ (numbers (object_number k)).strong + strong_told rest
  one_told k rest = by_death (is_dead memory (object_number k)) refl
    where
      by_name : (b : Bool) → (numbers (object_number k)).strong ≡ 0
          → strong_told (cons_option (cond b (Some (told_as k)) None) rest) ≡ (numbers (object_number k)).strong + strong_told rest
      by_name true none = sum_by-cons told_strong (told_as k) rest
      by_name false none = omega (arith, none)

      by_death : (b : Bool) → is_dead memory (object_number k) ≡ b
          → strong_told (cons_option (cond (not b || is_named (numbers (object_number k))) (Some (told_as k)) None) rest)
          ≡ (numbers (object_number k)).strong + strong_told rest
      by_death true is = by_name (is_named (numbers (object_number k))) (dead (object_number k) is)
      by_death false is = sum_by-cons told_strong (told_as k) rest

  -- from one number on
  told_from : (rest : List Numbers) (a : ℕ) → ((k : ℕ) → numbers (object_number (a + k)) ≡ unwrap_or (slice_get rest k) no_numbers)
      → strong_told (filter_map told_at (range_with_len a (length rest))) ≡ strong_sum rest
  told_from [] a at = refl
  told_from (n ∷ rest) a at =
      let here : (numbers (object_number a)).strong ≡ n.strong = ap (λ i. (numbers (object_number i)).strong) (omega arith) ∙ ap strong_of (at 0) in
      let one = one_told a (filter_map told_at (range_with_len (a + 1) (length rest))) in
      let others = told_from rest (a + 1) (λ k. ap (λ i. numbers (object_number i)) (omega arith) ∙ at (suc k)) in
      let whole = sum_by-cons strong_of n rest in
      omega (arith, one, here, others, whole)

  -- where they are those that are stored
  pub all_told : (stored : List Numbers) → length stored ≡ length memory.objects → ((o : ObjectId) → numbers o ≡ numbers_of stored o)
      → strong_told (left_objects memory numbers) ≡ strong_sum stored
  all_told stored size same =
      ap (λ n. strong_told (filter_map told_at (range_with_len 0 n))) (sym size)
      ∙ told_from stored 0 (λ k. ap (λ i. numbers (object_number i)) (omega arith) ∙ same (object_number k))

pub totals_left : AreTotalsLeft
totals_left m told bound e f steps x last ran =
    let h : AreTotalsOf last = subst (λ n. AreTotalsOf (come_to n)) ran (totals_stored m told bound e f steps) in
    h.even ∙ ap (λ k. k + last.releases) (sym (all_told last.memory (numbers_of last.numbers) h.dead last.numbers h.size (λ o. refl)))
