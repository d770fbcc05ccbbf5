-- Totals of weights over lists.
use Rattle.std.proofs.Common.{◌≡◌, ℕ, zero, suc, ◌+◌, ◌<◌, ◌≤◌, List, [], ◌∷◌, ◌++◌, map, sum, length, set, get_or, take, drop, replicate, refl, ap, ◌∙◌, arith}
use Rattle.std.specs.List.{flat_map}
use Rattle.std.proofs.lemmas.List.{drop-drop}
use Rattle.std.proofs.lemmas.List.Sums.{sum-map, sum_by-cons, sum_by-set}
use Rattle.holder_model.specs.holder_model_values.RunValues.Cells.{Cell}
use Rattle.holder_model.specs.holder_model_values.RunValues.Memory.{put_cells}
use Rattle.holder_model.proofs.holder_model_values.ValueParts.Splices.{put_is_spliced}

abbrev pub total : {A : Type 0} → (A → ℕ) → List A → ℕ
total g xs = sum (map g xs)

module _ {A : Type 0} (g : A → ℕ) where
  pub total_cons : (x : A) (xs : List A) → total g (x ∷ xs) ≡ g x + total g xs
  total_cons x xs = sum_by-cons (λ n. n) (g x) (map g xs)

  pub total_append : (xs ys : List A) → total g (xs ++ ys) ≡ total g xs + total g ys
  total_append [] ys = omega arith
  total_append (x ∷ xs) ys =
      let whole : total g (x ∷ (xs ++ ys)) ≡ g x + total g (xs ++ ys) = total_cons x (xs ++ ys) in
      let first : total g (x ∷ xs) ≡ g x + total g xs = total_cons x xs in
      let rest : total g (xs ++ ys) ≡ total g xs + total g ys = total_append xs ys in
      omega (arith, whole, first, rest)

  pub total_set : (xs : List A) (i : ℕ) (y d : A) → i < length xs → total g (set xs i y) + g (get_or xs i d) ≡ total g xs + g y
  total_set xs i y d lt =
      let changed = sum_by-set g xs i y d lt in
      let old = sum-map g xs in
      let new = sum-map g (set xs i y) in
      omega (arith, changed, old, new)

  pub total_none : (n : ℕ) (x : A) → g x ≡ 0 → total g (replicate n x) ≡ 0
  total_none zero x e = refl
  total_none (suc n) x e =
      let first : total g (x ∷ replicate n x) ≡ g x + total g (replicate n x) = total_cons x (replicate n x) in
      let rest : total g (replicate n x) ≡ 0 = total_none n x e in
      omega (arith, first, rest, e)

  pub total_cut : (xs : List A) (n : ℕ) → total g (take n xs) + total g (drop n xs) ≡ total g xs
  total_cut xs zero = omega arith
  total_cut [] (suc n) = omega arith
  total_cut (x ∷ xs) (suc n) =
      let whole : total g (x ∷ xs) ≡ g x + total g xs = total_cons x xs in
      let first : total g (x ∷ take n xs) ≡ g x + total g (take n xs) = total_cons x (take n xs) in
      let rest : total g (take n xs) + total g (drop n xs) ≡ total g xs = total_cut xs n in
      omega (arith, whole, first, rest)

pub total_flat : {A B : Type 0} (g : B → ℕ) (f : A → List B) (xs : List A) → total g (flat_map f xs) ≡ total (λ x. total g (f x)) xs
total_flat g f [] = refl
total_flat g f (x ∷ xs) =
    let both : total g (f x ++ flat_map f xs) ≡ total g (f x) + total g (flat_map f xs) = total_append g (f x) (flat_map f xs) in
    let rest : total g (flat_map f xs) ≡ total (λ x. total g (f x)) xs = total_flat g f xs in
    let whole : total (λ x. total g (f x)) (x ∷ xs) ≡ total g (f x) + total (λ x. total g (f x)) xs = total_cons (λ x. total g (f x)) x xs in
    omega (arith, both, rest, whole)

-- cells that are put take the place of those that were there
pub total_put : (g : Cell → ℕ) (kept : List Cell) (i : ℕ) (new : List Cell) → i + length new ≤ length kept
    → total g (put_cells kept i new) + total g (take (length new) (drop i kept)) ≡ total g kept + total g new
total_put g kept i new le =
    let put : total g (put_cells kept i new) ≡ total g (take i kept ++ (new ++ drop (i + length new) kept)) = ap (total g) (put_is_spliced kept i new le) in
    let outer : total g (take i kept ++ (new ++ drop (i + length new) kept)) ≡ total g (take i kept) + total g (new ++ drop (i + length new) kept) =
    total_append g (take i kept) (new ++ drop (i + length new) kept) in
    let inner : total g (new ++ drop (i + length new) kept) ≡ total g new + total g (drop (i + length new) kept) = total_append g new (drop (i + length new) kept) in
    let cut : total g (take i kept) + total g (drop i kept) ≡ total g kept = total_cut g kept i in
    let again : total g (take (length new) (drop i kept)) + total g (drop (length new) (drop i kept)) ≡ total g (drop i kept) = total_cut g (drop i kept) (length new) in
    let behind : total g (drop (length new) (drop i kept)) ≡ total g (drop (i + length new) kept) = ap (total g) (drop-drop (length new) i kept) in
    omega (arith, put, outer, inner, cut, again, behind)
