-- What is popped off a list stands first of the list turned round.
use Rattle.std.proofs.Common.{◌≡◌, ℕ, ◌-◌, ◌<◌, ◌≤◌, List, [], ◌∷◌, ◌++◌, length, take, get_or, ap, arith, refl, subst, ◌∙◌, reverse, Some}
use Rattle.std.specs.Prelude.{Option, suc}
use Rattle.std.specs.Option.{option_to_list}
use Rattle.std.proofs.Math.Seq.{take-suc}
use Rattle.std.proofs.lemmas.List.{reverse-append}

pub popped : {X : Type 0} (old new : List X) (x : X) (r : Option X) → old ≡ new ++ option_to_list r → r ≡ Some x → old ≡ new ++ x ∷ []
popped old new x r is some = is ∙ ap (λ o. new ++ option_to_list o) some

pub first_popped : {X : Type 0} (old new : List X) (x : X) → old ≡ new ++ x ∷ [] → reverse old ≡ x ∷ reverse new
first_popped old new x is = ap reverse is ∙ reverse-append new (x ∷ [])

pub first_of : {X : Type 0} (xs : List X) → 0 < length xs → (x : X) × (rest : List X) × xs ≡ x ∷ rest
first_of [] h = absurd (omega (arith, h))
first_of (x ∷ xs) h = (x, xs, refl)

-- the first n, of which the last stands apart
pub front_with_last : {X : Type 0} (n : ℕ) (xs : List X) (d : X) → 0 < n → n ≤ length xs → take n xs ≡ take (n - 1) xs ++ get_or xs (n - 1) d ∷ []
front_with_last n xs d some there =
    let e : suc (n - 1) ≡ n = omega (arith, some) in
    subst (λ k. take k xs ≡ take (n - 1) xs ++ get_or xs (n - 1) d ∷ []) e (take-suc xs (n - 1) d (omega (arith, some, there)))
