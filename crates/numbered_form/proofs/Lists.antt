-- Facts on lists: of which no element is told, what holds of each element, elements at their places, and what a test of any finds.
use Rattle.std.proofs.Common.{◌≡◌, ℕ, List, [], ◌∷◌, ◌++◌, refl, Bool, true, false, ◌⊎◌, inl, inr, Option, Some, None}
use Rattle.std.specs.Prelude.{◌||◌, Contains, option_map, slice_get}
use Rattle.std.specs.List.{list_any}
use Rattle.std.proofs.lemmas.Bool.{or_right}
use Rattle.std.proofs.lemmas.Option.{get_or_from_slice_get, slice_get_within}
use Rattle.numbered_form.specs.Lists.{Each, is_empty}

pub empty_is : {A : Type 0} (xs : List A) → is_empty xs ≡ true → xs ≡ []
empty_is [] e = refl
empty_is (x ∷ xs) e = cc

pub contained : {A : Type 0} (xs : List A) (k : ℕ) (x : A) → slice_get xs k ≡ Some x → Contains xs x
contained xs k x e = (k, slice_get_within xs k x e, get_or_from_slice_get xs k x x e)

pub mapped_from : {A B : Type 0} (g : A → B) (o : Option A) (y : B) → option_map g o ≡ Some y → (x : A) × (o ≡ Some x) × (g x ≡ y)
mapped_from g None y e = absurd (cc)
mapped_from g (Some x) y e = (x, refl, cc)

-- ---- each element

pub each_weaker : {A : Type 0} (P Q : A → Type 0) → ((x : A) → P x → Q x) → (xs : List A) → Each P xs → Each Q xs
each_weaker P Q e [] h = tt
each_weaker P Q e (x ∷ xs) h = (e x h.0, each_weaker P Q e xs h.1)

pub each_both : {A : Type 0} (P Q R : A → Type 0) → ((x : A) → P x → Q x → R x) → (xs : List A) → Each P xs → Each Q xs → Each R xs
each_both P Q R e [] h k = tt
each_both P Q R e (x ∷ xs) h k = (e x h.0 k.0, each_both P Q R e xs h.1 k.1)

-- ---- a test of any

module _ {A : Type 0} (test : A → Bool) where
  pub any_left : (xs ys : List A) → list_any test xs ≡ true → list_any test (xs ++ ys) ≡ true
  any_left [] ys e = absurd (cc)
  any_left (x ∷ xs) ys e = at (test x) (λ h. any_left xs ys h) e
    where
      at : (b : Bool) → (list_any test xs ≡ true → list_any test (xs ++ ys) ≡ true) → (b || list_any test xs) ≡ true → (b || list_any test (xs ++ ys)) ≡ true
      at true rest h = refl
      at false rest h = rest h

  pub any_right : (xs ys : List A) → list_any test ys ≡ true → list_any test (xs ++ ys) ≡ true
  any_right [] ys e = e
  any_right (x ∷ xs) ys e = or_right (test x) (list_any test (xs ++ ys)) (any_right xs ys e)

  pub any_cases : (xs ys : List A) → list_any test (xs ++ ys) ≡ true → (list_any test xs ≡ true) ⊎ (list_any test ys ≡ true)
  any_cases [] ys e = inr e
  any_cases (x ∷ xs) ys e = at (test x) (λ h. any_cases xs ys h) e
    where
      at : (b : Bool) → (list_any test (xs ++ ys) ≡ true → (list_any test xs ≡ true) ⊎ (list_any test ys ≡ true)) → (b || list_any test (xs ++ ys)) ≡ true
          → ((b || list_any test xs) ≡ true) ⊎ (list_any test ys ≡ true)
      at true rest h = inl refl
      at false rest h = rest h
