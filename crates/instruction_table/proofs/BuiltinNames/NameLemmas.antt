-- A name is told apart part by part.
use Rattle.std.proofs.Common.{◌≡◌, ℕ, List, [], ◌∷◌, ◌++◌, length, take, drop, refl, ap, sym, ◌∙◌, Bool, true, false, nat_eq, bytes_eq}
use Rattle.std.specs.Prelude.{◌&&◌}
use Rattle.std.specs.Cmp.Lexicographic.{pointwise}

and-assoc : (a b c : Bool) → (a && (b && c)) ≡ ((a && b) && c)
and-assoc true b c = refl
and-assoc false b c = refl

and-false : (a b : Bool) → a ≡ false → (a && b) ≡ false
and-false a b e = rw e refl

and-true : (a b : Bool) → a ≡ true → (a && b) ≡ b
and-true a b e = rw e refl

bytes_eq-append : (name a b : List ℕ) → bytes_eq name (a ++ b) ≡ (pointwise nat_eq (take (length a) name) a && bytes_eq (drop (length a) name) b)
bytes_eq-append name [] b = refl
bytes_eq-append [] (x ∷ a) b = refl
bytes_eq-append (y ∷ name) (x ∷ a) b =
    ap (λ t. nat_eq y x && t) (bytes_eq-append name a b)
    ∙ and-assoc (nat_eq y x) (pointwise nat_eq (take (length a) name) a) (bytes_eq (drop (length a) name) b)

-- a name without the front, and one with it
pub no_front : (name front a b : List ℕ) → front ≡ a → pointwise nat_eq (take (length front) name) front ≡ false → false ≡ bytes_eq name (a ++ b)
no_front name front a b e h = sym (rw (← e) (bytes_eq-append name front b ∙ and-false (pointwise nat_eq (take (length front) name) front) (bytes_eq (drop (length front) name) b) h))

pub with_front : (name front rest a b : List ℕ) → front ≡ a → pointwise nat_eq (take (length front) name) front ≡ true → rest ≡ drop (length front) name → bytes_eq rest b ≡ bytes_eq name (a ++ b)
with_front name front rest a b e h r = sym (rw (← e, r) (bytes_eq-append name front b ∙ and-true (pointwise nat_eq (take (length front) name) front) (bytes_eq (drop (length front) name) b) h))
