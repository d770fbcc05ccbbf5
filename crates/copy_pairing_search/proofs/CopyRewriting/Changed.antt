-- The element at a place changed, as it is written there.
use Rattle.std.proofs.Common.{◌≡◌, ℕ, zero, suc, ◌<◌, List, [], ◌∷◌, length, get_or, ap, ◌∙◌, arith}
use Rattle.std.specs.Prelude.{slice_get, IsSomeAnd}
use Rattle.std.proofs.Math.ListN.{set}
use Rattle.copy_pairing_model.specs.Rewritten.{changed_at}

-- y is written where x stands, which is changed to y
pub set_changed : {A : Type 0} (change : A → A) (xs : List A) (n : ℕ) (x y : A) → n < length xs → x ≡ get_or xs n x → y ≡ change x → set xs n y ≡ changed_at n change xs
set_changed change [] n x y lt is new = absurd (omega arith)
set_changed change (z ∷ xs) zero x y lt is new = ap (λ a. a ∷ xs) (new ∙ ap change is)
set_changed change (z ∷ xs) (suc n) x y lt is new = ap (λ rest. z ∷ rest) (set_changed change xs n x y (omega arith) is new)

-- the same in a list that is equal
pub set_changed_in : {A : Type 0} (change : A → A) (xs ys : List A) (n : ℕ) (x y : A) → ys ≡ xs → n < length xs → x ≡ get_or ys n x → y ≡ change x
    → set ys n y ≡ changed_at n change xs
set_changed_in change xs ys n x y same lt is new =
    let within : n < length ys = omega (arith, ap length same) in
    set_changed change ys n x y within is new ∙ ap (changed_at n change) same

-- where something stands is within the list
pub below_some : {A : Type 0} (P : A → Type 0) (xs : List A) (n : ℕ) → IsSomeAnd (slice_get xs n) P → n < length xs
below_some P [] n h = absurd h
below_some P (x ∷ xs) zero h = omega arith
below_some P (x ∷ xs) (suc n) h = let lt : n < length xs = below_some P xs n h in omega arith
