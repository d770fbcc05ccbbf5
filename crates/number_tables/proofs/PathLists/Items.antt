-- The list of an item, where lists are added.
use Rattle.std.proofs.Common.{◌≡◌, ◌≢◌, ℕ, ◌+◌, ◌<◌, ◌≤◌, List, [], ◌∷◌, ◌++◌, length, get_or, sym, ap, ◌∙◌, ◌⊎◌, inl, inr, arith, length-append}
use Rattle.std.specs.Prelude.{unwrap_or}
use Rattle.std.proofs.Math.Seq.{get_or-append_seam}
use Rattle.std.proofs.lemmas.Bool.{cases_eq}
use Rattle.std.proofs.lemmas.List.{get_or_append_left}
use Rattle.std.proofs.lemmas.Option.{slice_get-get_or, slice_get_past}
use Rattle.number_tables.specs.PathLists.inner.Lists.{list_at}

pub list_past : {A : Type 0} (lists : List (List A)) (i : ℕ) → length lists ≤ i → list_at lists i ≡ []
list_past lists i le = ap (λ o. unwrap_or o []) (slice_get_past lists i le)

list_or : {A : Type 0} (lists : List (List A)) (i : ℕ) (d : List A) → i < length lists → list_at lists i ≡ get_or lists i d
list_or lists i d lt = ap (λ o. unwrap_or o []) (slice_get-get_or lists i d lt)

pub list_kept : {A : Type 0} (lists : List (List A)) (list : List A) (i : ℕ) → i < length lists → list_at (lists ++ list ∷ []) i ≡ list_at lists i
list_kept lists list i lt =
    list_or (lists ++ list ∷ []) i [] (omega (arith, length-append lists (list ∷ []))) ∙ get_or_append_left lists (list ∷ []) [] i lt ∙ sym (list_or lists i [] lt)

pub list_last : {A : Type 0} (lists : List (List A)) (list : List A) (i : ℕ) → i ≡ length lists → list_at (lists ++ list ∷ []) i ≡ list
list_last lists list i e =
    list_or (lists ++ list ∷ []) i [] (omega (arith, length-append lists (list ∷ []))) ∙ ap (λ k. get_or (lists ++ list ∷ []) k []) e ∙ get_or-append_seam lists list [] []

pub count_pushed : {A : Type 0} (lists : List (List A)) (list : List A) → length (lists ++ list ∷ []) ≡ length lists + 1
count_pushed lists list = omega (arith, length-append lists (list ∷ []))

-- one item more has its list
pub list_one_more : {A : Type 0} (at : ℕ → List A) (all : List (List A)) (x : List A) (n : ℕ) → length all ≡ n → x ≡ at n → ((k : ℕ) → k < n → list_at all k ≡ at k) → (k : ℕ) → k < n + 1
    → list_at (all ++ x ∷ []) k ≡ at k
list_one_more {A} at all x n size here h k lt = by_case (cases_eq k n)
  where
    by_case : (k ≡ n) ⊎ (k ≢ n) → list_at (all ++ x ∷ []) k ≡ at k
    by_case (inl same) = list_last all x k (same ∙ sym size) ∙ here ∙ ap at (sym same)
    by_case (inr ne) = list_kept all x k (omega arith) ∙ h k (omega arith)
