-- The accesses of an item that was read from its vector.
use Rattle.std.proofs.Common.{◌≡◌, ◌≢◌, ℕ, ◌+◌, ◌<◌, ◌≤◌, List, [], ◌∷◌, ◌++◌, length, get_or, sym, ap, ◌∙◌, subst, ◌⊎◌, inl, inr, Some, arith}
use Rattle.std.specs.Prelude.{unwrap_or, option_map}
use Rattle.std.specs.List.{slice_get}
use Rattle.std.specs.declared.vec.Vec.{Vec}
use Rattle.std.specs.declared.alloc.Global.{Global}
use Rattle.std.proofs.lemmas.Bool.{cases_eq, cases_lt}
use Rattle.std.proofs.lemmas.Option.{slice_get-get_or, slice_get-map, slice_get_past}
use Rattle.sil_cfg.proofs.Gets.{kept_get, last_get}
use Rattle.reach_engine_marks.specs.PathPatterns.inner.Reads.{accesses_at}

pub accesses_there : {A : Type 0} (xs : List (Vec A Global)) (i : ℕ) (x : Vec A Global) → i < length xs → x ≡ get_or xs i x → accesses_at xs i ≡ x.items
accesses_there xs i x lt e = ap (λ o. unwrap_or o []) (slice_get-map (λ v. v.items) xs i ∙ ap (option_map (λ v. v.items)) (slice_get-get_or xs i x lt ∙ ap (λ v. Some v) (sym e)))

pub accesses_past : {A : Type 0} (xs : List (Vec A Global)) (i : ℕ) → length xs ≤ i → accesses_at xs i ≡ []
accesses_past xs i le = ap (λ o. unwrap_or o []) (slice_get-map (λ v. v.items) xs i ∙ ap (option_map (λ v. v.items)) (slice_get_past xs i le))

pub accesses_kept : {A : Type 0} (xs : List (Vec A Global)) (x : Vec A Global) (i : ℕ) → i < length xs → accesses_at (xs ++ x ∷ []) i ≡ accesses_at xs i
accesses_kept xs x i lt =
    let y = get_or xs i x in
    let old = slice_get-get_or xs i x lt in
    ap (λ o. unwrap_or o []) (slice_get-map (λ v. v.items) (xs ++ x ∷ []) i ∙ ap (option_map (λ v. v.items)) (kept_get xs (x ∷ []) i y old ∙ sym old) ∙ sym (slice_get-map (λ v. v.items) xs i))

pub accesses_last : {A : Type 0} (xs : List (Vec A Global)) (x : Vec A Global) (i : ℕ) → i ≡ length xs → accesses_at (xs ++ x ∷ []) i ≡ x.items
accesses_last xs x i e = ap (λ o. unwrap_or o []) (slice_get-map (λ v. v.items) (xs ++ x ∷ []) i ∙ ap (option_map (λ v. v.items)) (ap (slice_get (xs ++ x ∷ [])) e ∙ last_get xs x))

-- one item more has its accesses
pub accesses_one_more : {A : Type 0} (at : ℕ → List A) (all : List (Vec A Global)) (x : Vec A Global) (n : ℕ) → length all ≡ n → x.items ≡ at n → ((k : ℕ) → k < n → accesses_at all k ≡ at k) → (k : ℕ)
    → k < n + 1 → accesses_at (all ++ x ∷ []) k ≡ at k
accesses_one_more {A} at all x n size these h k lt = by_case (cases_eq k n)
  where
    by_case : (k ≡ n) ⊎ (k ≢ n) → accesses_at (all ++ x ∷ []) k ≡ at k
    by_case (inl same) = accesses_last all x k (same ∙ sym size) ∙ these ∙ ap at (sym same)
    by_case (inr ne) = accesses_kept all x k (omega arith) ∙ h k (omega arith)

-- a fact of each item and of what was made of it, with one more item
pub accesses_more : {A B : Type 0} (R : List A → List B → Type 0) (entries : List (Vec A Global)) (made : List (Vec B Global)) (e : Vec A Global) (x : Vec B Global) (n : ℕ) → length made ≡ n →
    accesses_at entries n ≡ e.items →
    ((i : ℕ) → i < n → R (accesses_at entries i) (accesses_at made i)) → R e.items x.items → (i : ℕ) → i < n + 1 → R (accesses_at entries i) (accesses_at (made ++ x ∷ []) i)
accesses_more {A} {B} R entries made e x n size here h is i lt = at (cases_eq i n)
  where
    at : (i ≡ n) ⊎ (i ≢ n) → R (accesses_at entries i) (accesses_at (made ++ x ∷ []) i)
    at (inl same) = subst (R (accesses_at entries i)) (sym (accesses_last made x i (same ∙ sym size))) (subst (λ (v : List A). R v x.items) (sym (ap (accesses_at entries) same ∙ here)) is)
    at (inr ne) = subst (R (accesses_at entries i)) (sym (accesses_kept made x i (omega arith))) (h i (omega arith))

-- past the last item there is nothing on either side
pub accesses_each : {A B : Type 0} (R : List A → List B → Type 0) (entries : List (Vec A Global)) (made : List (Vec B Global)) → length made ≡ length entries →
    ((i : ℕ) → i < length entries → R (accesses_at entries i) (accesses_at made i)) → R [] [] → (i : ℕ) → R (accesses_at entries i) (accesses_at made i)
accesses_each {A} {B} R entries made size h none i = at (cases_lt i (length entries))
  where
    at : (i < length entries) ⊎ (length entries ≤ i) → R (accesses_at entries i) (accesses_at made i)
    at (inl lt) = h i lt
    at (inr le) = subst (λ (v : List A). R v (accesses_at made i)) (sym (accesses_past entries i le)) (subst (R []) (sym (accesses_past made i (omega arith))) none)
