-- A list of which one element is changed and a later one is gone.
use Rattle.std.proofs.Common.{◌≡◌, ◌≢◌, ◌⊎◌, inl, inr, ℕ, zero, suc, List, [], ◌∷◌, ◌++◌, refl, sym, ap, Some}
use Rattle.std.specs.Prelude.{option_map}
use Rattle.std.specs.List.{remove, slice_get}
use Rattle.std.proofs.lemmas.Option.{same_Some}
use Rattle.copy_pairing_model.specs.Rewritten.{changed_at}

pub changed_there : {A : Type 0} (change : A → A) (n : ℕ) (xs : List A) → slice_get (changed_at n change xs) n ≡ option_map change (slice_get xs n)
changed_there change n [] = refl
changed_there change zero (x ∷ xs) = refl
changed_there change (suc n) (x ∷ xs) = changed_there change n xs

pub changed_elsewhere : {A : Type 0} (change : A → A) (n k : ℕ) (xs : List A) → k ≢ n → slice_get (changed_at n change xs) k ≡ slice_get xs k
changed_elsewhere change n k [] ne = refl
changed_elsewhere change zero zero (x ∷ xs) ne = absurd (ne refl)
changed_elsewhere change zero (suc k) (x ∷ xs) ne = refl
changed_elsewhere change (suc n) zero (x ∷ xs) ne = refl
changed_elsewhere change (suc n) (suc k) (x ∷ xs) ne = changed_elsewhere change n k xs (λ e. ne (ap suc e))

-- the element at the place, changed
abbrev pub IsChangedOf : {A : Type 0} → (A → A) → ℕ → List A → A → Type 0
IsChangedOf {A} change n xs y = (x : A) × (slice_get xs n ≡ Some x) × (y ≡ change x)

pub from_changed : {A : Type 0} (change : A → A) (n k : ℕ) (xs ys : List A) (y : A) → slice_get (changed_at n change xs ++ ys) k ≡ Some y
    → (slice_get (xs ++ ys) k ≡ Some y) ⊎ IsChangedOf change n xs y
from_changed change n k [] ys y e = inl e
from_changed change zero zero (x ∷ xs) ys y e = inr (x, refl, sym (same_Some (change x) y e))
from_changed change zero (suc k) (x ∷ xs) ys y e = inl e
from_changed change (suc n) zero (x ∷ xs) ys y e = inl e
from_changed change (suc n) (suc k) (x ∷ xs) ys y e = from_changed change n k xs ys y e

pub from_removed : {A : Type 0} (n k : ℕ) (xs ys : List A) (y : A) → slice_get (remove xs n ++ ys) k ≡ Some y → (j : ℕ) × (slice_get (xs ++ ys) j ≡ Some y)
from_removed zero k [] ys y e = (k, e)
from_removed (suc n) k [] ys y e = (k, e)
from_removed zero k (x ∷ xs) ys y e = (suc k, e)
from_removed (suc n) zero (x ∷ xs) ys y e = (0, e)
from_removed (suc n) (suc k) (x ∷ xs) ys y e =
    let r = from_removed n k xs ys y e in
    (suc r.0, r.1)
