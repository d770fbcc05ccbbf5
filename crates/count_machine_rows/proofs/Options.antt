-- What is told of an option by cases, where it is known which it is.
use Rattle.std.proofs.Common.{◌≡◌, Option, Some, None, refl}
use Rattle.std.specs.Prelude.{true, false, is_some, MatchOption}

pub none_told : {A : Type 0} (x : Option A) (P : Type 0) (Q : A → Type 0) → is_some x ≡ false → MatchOption x P Q → (x ≡ None) × P
none_told None P Q e p = (refl, p)
none_told (Some a) P Q e p = cc

pub some_told : {A : Type 0} (x : Option A) (P : Type 0) (Q : A → Type 0) → is_some x ≡ true → MatchOption x P Q → (a : A) × (x ≡ Some a) × Q a
some_told None P Q e p = cc
some_told (Some a) P Q e p = (a, refl, p)
