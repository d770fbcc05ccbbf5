-- Windows of leaves.
use Rattle.std.proofs.Common.{◌≡◌, ℕ, zero, suc, ◌+◌, ◌-◌, ◌<◌, ◌≤◌, List, [], ◌∷◌, length, take, drop, get_or, refl, sym, ap, ◌∙◌, arith, min, inl, inr}
use Rattle.std.proofs.lemmas.Bool.{cases_lt}
use Rattle.std.proofs.lemmas.List.{drop-drop, get_or_past}
use Rattle.std.proofs.Math.Nat.{min-zero, sub-zero, suc-min-suc, suc-sub-suc, zero-min, zero-sub}
use Rattle.count_machine_model.specs.MachineSteps.Operands.{first_leaf}
use Rattle.holder_model_values.specs.declared.run_values.leaf.Leaf.{Leaf}
use Rattle.holder_model_values.specs.declared.run_values.leaf.Leaf.TheVariants as leaf

first_at : (at : ℕ) (xs : List Leaf) (n : ℕ) → first_leaf (take (suc n) (drop at xs)) ≡ get_or xs at leaf.Blank
first_at zero [] n = refl
first_at zero (x ∷ xs) n = refl
first_at (suc at) [] n = refl
first_at (suc at) (x ∷ xs) n = first_at at xs n

pub first_of_window : (at size : ℕ) (xs : List Leaf) → 0 < size → first_leaf (take size (drop at xs)) ≡ get_or xs at leaf.Blank
first_of_window at zero xs h = absurd (omega arith)
first_of_window at (suc n) xs h = first_at at xs n

-- at a place that is counted up to the end of its type
pub first_saturated : (xs : List Leaf) (at place size : ℕ) → at ≡ min place 18446744073709551615 → length xs < 18446744073709551616 → 0 < size →
    get_or xs at leaf.Blank ≡ first_leaf (take size (drop place xs))
first_saturated xs at place size e short some = elim (cases_lt at (length xs)) as (λ _. get_or xs at leaf.Blank ≡ first_leaf (take size (drop place xs))) [
  | inl h ↦ let same : at ≡ place = omega arith in ap (λ k. get_or xs k leaf.Blank) same ∙ sym (first_of_window place size xs some)
  | inr h ↦ get_or_past xs at leaf.Blank h ∙ sym (get_or_past xs place leaf.Blank (omega arith)) ∙ sym (first_of_window place size xs some)
]

take_nil : {A : Type 0} (n : ℕ) → take {A = A} n [] ≡ []
take_nil zero = refl
take_nil (suc n) = refl

-- a part of a window

drop_of_take : {A : Type 0} (k m : ℕ) (xs : List A) → drop k (take m xs) ≡ take (m - k) (drop k xs)
drop_of_take zero m xs = ap (λ n. take n xs) (sym (sub-zero m))
drop_of_take (suc k) zero xs = ap (λ n. take n (drop (suc k) xs)) (sym (zero-sub (suc k)))
drop_of_take (suc k) (suc m) [] = sym (take_nil (suc m - suc k))
drop_of_take (suc k) (suc m) (x ∷ xs) = drop_of_take k m xs ∙ ap (λ n. take n (drop k xs)) (sym (suc-sub-suc m k))

take_of_take : {A : Type 0} (n m : ℕ) (xs : List A) → take n (take m xs) ≡ take (min n m) xs
take_of_take zero m xs = ap (λ k. take k xs) (sym (zero-min m))
take_of_take (suc n) zero xs = ap (λ k. take k xs) (sym (min-zero (suc n)))
take_of_take (suc n) (suc m) [] = sym (take_nil (min (suc n) (suc m)))
take_of_take (suc n) (suc m) (x ∷ xs) = ap (λ zs. x ∷ zs) (take_of_take n m xs) ∙ ap (λ k. take k (x ∷ xs)) (sym (suc-min-suc n m))

pub part_of_window : {A : Type 0} (from size part count : ℕ) (xs : List A) →
    take count (drop part (take size (drop from xs))) ≡ take (min count (size - part)) (drop (from + part) xs)
part_of_window from size part count xs =
    ap (take count) (drop_of_take part size (drop from xs))
    ∙ take_of_take count (size - part) (drop part (drop from xs))
    ∙ ap (take (min count (size - part))) (drop-drop part from xs)
