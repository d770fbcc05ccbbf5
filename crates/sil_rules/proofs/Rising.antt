-- A list of literals that rises, told by a test that computes.
use Rattle.std.proofs.Common.{◌≡◌, ℕ, zero, suc, ◌<◌, ◌+◌, Bool, true, false, ◌&&◌, List, [], ◌∷◌, length, arith, subst, refl, get_or}
use Rattle.std.specs.Prelude.{nat_lt}
use Rattle.std.specs.List.Sorted.{IsStrictlyIncreasing}
use Rattle.std.proofs.lemmas.Bool.{ltb-true}

abbrev rises : List ℕ → Bool
rises [] = true
rises (x ∷ []) = true
rises (x ∷ y ∷ ys) = nat_lt x y && rises (y ∷ ys)

left : (a b : Bool) → (a && b) ≡ true → a ≡ true
left true b h = refl
left false b h = h

right : (a b : Bool) → (a && b) ≡ true → b ≡ true
right true b h = h
right false b h = grind arith

less_than_next : (xs : List ℕ) (k : ℕ) → rises xs ≡ true → suc k < length xs → get_or xs k 0 < get_or xs (suc k) 0
less_than_next [] k h l = absurd (omega arith)
less_than_next (x ∷ []) k h l = absurd (omega arith)
less_than_next (x ∷ y ∷ ys) zero h l = ltb-true x y (left (nat_lt x y) (rises (y ∷ ys)) h)
less_than_next (x ∷ y ∷ ys) (suc k) h l = less_than_next (y ∷ ys) k (right (nat_lt x y) (rises (y ∷ ys)) h) (omega arith)

pub increasing : (xs : List ℕ) → rises xs ≡ true → IsStrictlyIncreasing xs
increasing xs h k l = let next : suc k ≡ k + 1 = omega arith in subst (λ n. get_or xs k 0 < get_or xs n 0) next (less_than_next xs k h (omega arith))
