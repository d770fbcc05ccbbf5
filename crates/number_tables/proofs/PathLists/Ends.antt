-- The lists that stand between ends, for the contracts of `ItemLists`.
use Rattle.std.proofs.Common.{◌≡◌, ℕ, zero, suc, ◌+◌, ◌-◌, ◌<◌, ◌≤◌, List, [], ◌∷◌, ◌++◌, length, drop, take, refl, ap, ap₂, ◌∙◌, Some, arith, length-drop}
use Rattle.std.specs.Prelude.{slice_get, slice_index_or, slice_range}
use Rattle.std.proofs.Math.Seq.{drop-append_seam}
use Rattle.std.proofs.lemmas.List.{drop-append-le, take-append-le, take_all}
use Rattle.number_tables.specs.PathLists.inner.Lists.{AreEnds, lists_from}

pub range_kept : {A : Type 0} (xs ys : List A) (a b : ℕ) → a ≤ b → b ≤ length xs → slice_range (xs ++ ys) a b ≡ slice_range xs a b
range_kept xs ys a b le within =
    ap (take (b - a)) (drop-append-le a xs ys (omega arith)) ∙ take-append-le (b - a) (drop a xs) ys (omega (arith, length-drop a xs))

pub range_last : {A : Type 0} (xs ys : List A) (a b : ℕ) → a ≡ length xs → b ≡ length xs + length ys → slice_range (xs ++ ys) a b ≡ ys
range_last xs ys a b first last =
    ap (λ n. take (b - a) (drop n (xs ++ ys))) first ∙ ap (take (b - a)) (drop-append_seam xs ys) ∙ take_all (b - a) ys (omega arith)

pub end_of_all : (start : ℕ) (ends : List ℕ) (count : ℕ) → AreEnds start ends count → start ≤ count
end_of_all start [] count are = omega arith
end_of_all start (end ∷ ends) count are = let le : start ≤ end = are.0 in let more : end ≤ count = end_of_all end ends count are.1 in omega arith

-- one list more
pub lists_pushed : {A : Type 0} (start : ℕ) (xs ys : List A) (ends : List ℕ) (n : ℕ) → AreEnds start ends (length xs) → n ≡ length xs + length ys →
    lists_from start (xs ++ ys) (ends ++ n ∷ []) ≡ lists_from start xs ends ++ ys ∷ []
lists_pushed start xs ys [] n are size = ap (λ v. v ∷ []) (range_last xs ys start n are size)
lists_pushed start xs ys (end ∷ ends) n are size = ap₂ (λ v w. v ∷ w) (range_kept xs ys start end are.0 (end_of_all end ends (length xs) are.1)) (lists_pushed end xs ys ends n are.1 size)

pub ends_pushed : (start : ℕ) (ends : List ℕ) (count n : ℕ) → AreEnds start ends count → count ≤ n → AreEnds start (ends ++ n ∷ []) n
ends_pushed start [] count n are le = let same : start ≡ count = are in (omega arith, refl)
ends_pushed start (end ∷ ends) count n are le = (are.0, ends_pushed end ends count n are.1 le)

pub count_is : {A : Type 0} (start : ℕ) (xs : List A) (ends : List ℕ) → length (lists_from start xs ends) ≡ length ends
count_is start xs [] = refl
count_is start xs (end ∷ ends) = ap suc (count_is end xs ends)

-- a list stands between the end of the one before it and its own
pub list_there : {A : Type 0} (start : ℕ) (xs : List A) (ends : List ℕ) (i : ℕ) → i < length ends
    → slice_get (lists_from start xs ends) i ≡ Some (slice_range xs (slice_index_or (start ∷ ends) i 0) (slice_index_or ends i 0))
list_there start xs [] i lt = absurd (let none : length {A = ℕ} [] ≡ 0 = refl in omega arith)
list_there start xs (end ∷ ends) zero lt = refl
list_there start xs (end ∷ ends) (suc i) lt = list_there end xs ends i (omega arith)

pub ends_rise : (start : ℕ) (ends : List ℕ) (count i : ℕ) → AreEnds start ends count → i < length ends → slice_index_or (start ∷ ends) i 0 ≤ slice_index_or ends i 0
ends_rise start [] count i are lt = absurd (let none : length {A = ℕ} [] ≡ 0 = refl in omega arith)
ends_rise start (end ∷ ends) count zero are lt = are.0
ends_rise start (end ∷ ends) count (suc i) are lt = ends_rise end ends count i are.1 (omega arith)

pub ends_within : (start : ℕ) (ends : List ℕ) (count i : ℕ) → AreEnds start ends count → i < length ends → slice_index_or ends i 0 ≤ count
ends_within start [] count i are lt = absurd (let none : length {A = ℕ} [] ≡ 0 = refl in omega arith)
ends_within start (end ∷ ends) count zero are lt = end_of_all end ends count are.1
ends_within start (end ∷ ends) count (suc i) are lt = ends_within end ends count i are.1 (omega arith)
