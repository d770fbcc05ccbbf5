-- Steps of a switch, one after another: what leads behind all of them leads behind the first ones.
use Rattle.std.proofs.Common.{◌≡◌, List, [], ◌∷◌, ◌++◌, refl, Bool, Option, Some, None}
use Rattle.std.specs.Prelude.{option_and_then}
use Rattle.std.proofs.lemmas.Option.{none-some}
use Rattle.sil_verifier_trails.specs.RunTrails.inner.Switched.{after_each}

module _ {X : Type 0} (step : X → Bool → Option Bool) where
  abbrev IsSplit : (Bool → Option Bool) → List X → Bool → Option Bool → Type 0
  IsSplit over ys c o = (b : Bool) × (option_and_then over o ≡ Some b) × (after_each step ys b ≡ Some c)

  pub after_split : (xs ys : List X) (on c : Bool) → after_each step (xs ++ ys) on ≡ Some c → (b : Bool) × (after_each step xs on ≡ Some b) × (after_each step ys b ≡ Some c)
  after_split [] ys on c h = (on, refl, h)
  after_split (x ∷ xs) ys on c h = at (step x on) h (λ b h. after_split xs ys b c h)
    where
      at : (o : Option Bool) → option_and_then (after_each step (xs ++ ys)) o ≡ Some c
          → ((b : Bool) → after_each step (xs ++ ys) b ≡ Some c → (d : Bool) × (after_each step xs b ≡ Some d) × (after_each step ys d ≡ Some c))
          → IsSplit (after_each step xs) ys c o
      at None h more = absurd (none-some c h)
      at (Some b) h more = more b h

  pub after_one : (x : X) (on c : Bool) → after_each step (x ∷ []) on ≡ Some c → step x on ≡ Some c
  after_one x on c h = at (step x on) h
    where
      at : (o : Option Bool) → option_and_then (after_each step []) o ≡ Some c → o ≡ Some c
      at None h = h
      at (Some b) h = h
