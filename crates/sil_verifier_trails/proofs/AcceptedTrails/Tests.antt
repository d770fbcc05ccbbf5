-- Tests that some element of a list passes, and values by their numbers.
use Rattle.std.proofs.Common.{◌≡◌, List, [], ◌∷◌, ◌++◌, reverse, refl, ap, ap₂, ◌∙◌, Bool, true, false, ◌||◌, ◌⊎◌, inl, inr, eq-eqb}
use Rattle.std.specs.Prelude.{◌==◌}
use Rattle.std.specs.List.{list_any}
use Rattle.std.proofs.lemmas.Bool.{false≢true, or_cases, true≢false}
use Rattle.std.proofs.lemmas.List.{reverse-append}
use Rattle.std.proofs.lemmas.List.Folds.{list_any-append}
use Rattle.numbered_form.specs.Lists.{Each}
use Rattle.sil_verifier_values.specs.ownership_kinds_chains.OwnershipChains.Facts.{value_of}
use Rattle.sil_ast.specs.declared.place.ValueId.{ValueId}

pub or_right : (a b : Bool) → b ≡ true → (a || b) ≡ true
or_right true b e = refl
or_right false b e = e

pub or_first : (a b : Bool) → (a || b) ≡ false → a ≡ false
or_first true b h = h
or_first false b h = refl

pub or_second : (a b : Bool) → (a || b) ≡ false → b ≡ false
or_second true b h = absurd (true≢false h)
or_second false b h = h

pub neither : (a b : Bool) → a ≡ false → b ≡ false → (a || b) ≡ false
neither a b h k = ap (λ x. x || b) h ∙ k

or_swapped : (a b : Bool) → (b || a) ≡ (a || b)
or_swapped true true = refl
or_swapped true false = refl
or_swapped false true = refl
or_swapped false false = refl

pub or_more : (here more on : Bool) → (more || (here || on)) ≡ ((here || more) || on)
or_more true true on = refl
or_more true false on = refl
or_more false more on = refl

pub same_value : (a b : ValueId) → a.0 ≡ b.0 → a ≡ b
same_value a b e = ap value_of e

pub either : {A B C : Type 0} → (A → C) → (B → C) → A ⊎ B → C
either f g (inl a) = f a
either f g (inr b) = g b

module _ {A : Type 0} where
  pub each_of_both : (P : A → Type 0) (xs ys : List A) → Each P xs → Each P ys → Each P (xs ++ ys)
  each_of_both P [] ys h k = k
  each_of_both P (x ∷ xs) ys h k = (h.0, each_of_both P xs ys h.1 k)

  -- what holds of each element of which a value is, where it is one of these
  pub each_among : (value : A → ValueId) (P : A → Type 0) (xs : List A) → ((x : A) → list_any (λ y. (value y).0 == (value x).0) xs ≡ true → P x) → Each P xs
  each_among value P [] h = tt
  each_among value P (x ∷ xs) h = (
    h x (ap (λ b. b || list_any (λ y. (value y).0 == (value x).0) xs) (eq-eqb (value x).0 (value x).0 refl)),
    each_among value P xs (λ z there. h z (or_right ((value x).0 == (value z).0) (list_any (λ y. (value y).0 == (value z).0) xs) there)),
  )

  -- one of them passes, and P holds of it
  pub picked : (p : A → Bool) (P : A → Type 0) (xs : List A) → Each P xs → list_any p xs ≡ true → (x : A) × (p x ≡ true) × P x
  picked p P [] each h = absurd (false≢true h)
  picked p P (x ∷ xs) each h = either (λ here. (x, here, each.0)) (λ there. picked p P xs each.1 there) (or_cases (p x) (list_any p xs) h)

  pub any_alike : (p q : A → Bool) (xs : List A) → Each (λ x. p x ≡ q x) xs → list_any p xs ≡ list_any q xs
  any_alike p q [] h = refl
  any_alike p q (x ∷ xs) h = ap₂ (λ a b. a || b) h.0 (any_alike p q xs h.1)

  pub any_weaker : (p q : A → Bool) → ((x : A) → p x ≡ true → q x ≡ true) → (xs : List A) → list_any p xs ≡ true → list_any q xs ≡ true
  any_weaker p q h [] e = e
  any_weaker p q h (x ∷ xs) e =
      either (λ here. ap (λ b. b || list_any q xs) (h x here)) (λ there. or_right (q x) (list_any q xs) (any_weaker p q h xs there)) (or_cases (p x) (list_any p xs) e)

  pub each_weaker : (P Q : A → Type 0) → ((x : A) → P x → Q x) → (xs : List A) → Each P xs → Each Q xs
  each_weaker P Q h [] each = tt
  each_weaker P Q h (x ∷ xs) each = (h x each.0, each_weaker P Q h xs each.1)

  pub any_reversed : (p : A → Bool) (xs : List A) → list_any p (reverse xs) ≡ list_any p xs
  any_reversed p [] = refl
  any_reversed p (x ∷ xs) =
      ap (list_any p) (reverse-append (x ∷ []) xs) ∙ list_any-append p (reverse xs) (x ∷ []) ∙ ap (λ b. b || (p x || false)) (any_reversed p xs)
      ∙ ap (λ b. list_any p xs || b) (or_swapped false (p x)) ∙ or_swapped (p x) (list_any p xs)

  -- the first that passes
  pub record FirstOf (p : A → Bool) (xs : List A) : Type 0 where
    pub front : List A
    pub here : A
    pub rest : List A
    pub parts : xs ≡ front ++ here ∷ rest
    pub passes : p here ≡ true

  pub first_of : (p : A → Bool) (xs : List A) → list_any p xs ≡ true → FirstOf p xs
  first_of p [] h = absurd (false≢true h)
  first_of p (x ∷ xs) h =
      either (λ here. record { front = []; here = x; rest = xs; parts = refl; passes = here })
      (λ there. let r = first_of p xs there in record { front = x ∷ r.front; here = r.here; rest = r.rest; parts = ap (λ v. x ∷ v) r.parts; passes = r.passes })
      (or_cases (p x) (list_any p xs) h)
