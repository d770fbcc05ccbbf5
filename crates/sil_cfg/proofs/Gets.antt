-- Elements of lists that were added to.
use Rattle.std.proofs.Common.{◌≡◌, ℕ, zero, suc, ◌+◌, List, [], ◌∷◌, ◌++◌, length, take, refl, ap, ◌⊎◌, inl, inr, Some, arith}
use Rattle.std.specs.List.{slice_get}
use Rattle.std.proofs.lemmas.List.{length-append}
use Rattle.std.proofs.lemmas.Option.{none-some, same_Some}

pub kept_get : {A : Type 0} (xs : List A) (more : List A) (k : ℕ) (v : A) → slice_get xs k ≡ Some v → slice_get (xs ++ more) k ≡ Some v
kept_get [] more k v h = absurd (none-some v h)
kept_get (x ∷ xs) more zero v h = h
kept_get (x ∷ xs) more (suc k) v h = kept_get xs more k v h

pub last_get : {A : Type 0} (xs : List A) (x : A) → slice_get (xs ++ x ∷ []) (length xs) ≡ Some x
last_get [] x = refl
last_get (y ∷ xs) x = last_get xs x

pub pushed_get : {A : Type 0} (xs : List A) (x : A) (k : ℕ) (v : A) → slice_get (xs ++ x ∷ []) k ≡ Some v → (slice_get xs k ≡ Some v) ⊎ ((k ≡ length xs) × (x ≡ v))
pushed_get [] x zero v h = inr (refl, same_Some x v h)
pushed_get [] x (suc k) v h = absurd (none-some v h)
pushed_get (y ∷ xs) x zero v h = inl h
pushed_get (y ∷ xs) x (suc k) v h = at (pushed_get xs x k v h)
  where
    at : (slice_get xs k ≡ Some v) ⊎ ((k ≡ length xs) × (x ≡ v)) → (slice_get (y ∷ xs) (suc k) ≡ Some v) ⊎ ((suc k ≡ length (y ∷ xs)) × (x ≡ v))
    at (inl e) = inl e
    at (inr e) = inr (ap suc e.0, e.1)

pub take_one_more : {A : Type 0} (xs : List A) (k : ℕ) (x : A) → slice_get xs k ≡ Some x → take (suc k) xs ≡ take k xs ++ x ∷ []
take_one_more [] k x e = absurd (none-some x e)
take_one_more (y ∷ xs) zero x e = ap (λ v. v ∷ []) (same_Some y x e)
take_one_more (y ∷ xs) (suc k) x e = ap (λ v. y ∷ v) (take_one_more xs k x e)

pub length_push : {A : Type 0} (xs : List A) (x : A) → length (xs ++ x ∷ []) ≡ length xs + 1
length_push xs x = omega (arith, length-append xs (x ∷ []))
