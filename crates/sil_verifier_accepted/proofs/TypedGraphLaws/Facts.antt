-- Facts about tests and lists that the other files use.
use Rattle.std.proofs.Common.{◌≡◌, ℕ, zero, suc, List, [], ◌∷◌, ◌++◌, length, refl, subst, Bool, true, false, not, Some}
use Rattle.std.specs.Prelude.{◌&&◌, ◌||◌, All, slice_get}
use Rattle.std.specs.List.{list_any, list_all}
use Rattle.std.proofs.lemmas.Option.{slice_get-get_or}
use Rattle.numbered_form.specs.Lists.{Each}

pub and_first : (a b : Bool) → (a && b) ≡ true → a ≡ true
and_first true b e = refl
and_first false b e = cc

pub and_second : (a b : Bool) → (a && b) ≡ true → b ≡ true
and_second true b e = e
and_second false b e = cc

pub or_second : (a b : Bool) → a ≡ false → (a || b) ≡ true → b ≡ true
or_second true b f e = cc
or_second false b f e = e

pub neither_first : (a b : Bool) → (a || b) ≡ false → a ≡ false
neither_first true b e = e
neither_first false b e = refl

pub neither_second : (a b : Bool) → (a || b) ≡ false → b ≡ false
neither_second true b e = cc
neither_second false b e = e

pub from_not : (b : Bool) → not b ≡ true → b ≡ false
from_not true e = cc
from_not false e = refl

-- a test that can't fail passes
pub never_fails : (b : Bool) → (not b ≡ true → ⊥) → b ≡ true
never_fails true h = refl
never_fails false h = absurd (h refl)

-- a test that can't pass fails
pub never_passes : (b : Bool) → (b ≡ true → ⊥) → b ≡ false
never_passes true h = absurd (h refl)
never_passes false h = refl

module _ {A : Type 0} (P : A → Type 0) where
  pub each_at : (xs : List A) (i : ℕ) (x : A) → Each P xs → slice_get xs i ≡ Some x → P x
  each_at [] i x h e = cc
  each_at (y ∷ ys) zero x h e = let same : y ≡ x = cc in subst P same h.0
  each_at (y ∷ ys) (suc i) x h e = each_at ys i x h.1 e

  -- what holds of each element at its index
  pub all_at : (xs : List A) → ((i : ℕ) (x : A) → slice_get xs i ≡ Some x → P x) → All P xs
  all_at xs h i d lt = h i _ (slice_get-get_or xs i d lt)

pub each_of : {A : Type 0} (P Q : A → Type 0) → ((x : A) → P x → Q x) → (xs : List A) → Each P xs → Each Q xs
each_of P Q to [] h = tt
each_of P Q to (x ∷ xs) h = (to x h.0, each_of P Q to xs h.1)

pub all_of_each : {A : Type 0} (P : A → Type 0) (xs : List A) → Each P xs → All P xs
all_of_each P xs h = all_at P xs (λ i x e. each_at P xs i x h e)

pub passes_at : {A : Type 0} (test : A → Bool) (xs : List A) (i : ℕ) (x : A) → list_all test xs ≡ true → slice_get xs i ≡ Some x → test x ≡ true
passes_at test [] i x h e = cc
passes_at test (y ∷ ys) zero x h e = let same : y ≡ x = cc in subst (λ z. test z ≡ true) same (and_first (test y) (list_all test ys) h)
passes_at test (y ∷ ys) (suc i) x h e = passes_at test ys i x (and_second (test y) (list_all test ys) h) e

pub fails_at : {A : Type 0} (test : A → Bool) (xs : List A) (i : ℕ) (x : A) → list_any test xs ≡ false → slice_get xs i ≡ Some x → test x ≡ false
fails_at test [] i x h e = cc
fails_at test (y ∷ ys) zero x h e = let same : y ≡ x = cc in subst (λ z. test z ≡ false) same (neither_first (test y) (list_any test ys) h)
fails_at test (y ∷ ys) (suc i) x h e = fails_at test ys i x (neither_second (test y) (list_any test ys) h) e

-- the element behind a list
pub at_end : {A : Type 0} (xs : List A) (x : A) → slice_get (xs ++ x ∷ []) (length xs) ≡ Some x
at_end [] x = refl
at_end (y ∷ ys) x = at_end ys x
