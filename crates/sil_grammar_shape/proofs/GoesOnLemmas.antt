-- Whether a list goes on with a class is told by the first bad place of the list with that class.
use Rattle.std.proofs.Common.{◌≡◌, inl, inr, ℕ, ◌+◌, ◌≤◌, List, [], ◌∷◌, ◌++◌, length, take, drop, ap, sym, subst, ◌∙◌, append_assoc, length-append, arith}
use Rattle.std.proofs.lemmas.Bool.{cases_lt, eqb-false, eqb-true, not-true, not_from_false, false_from_ne_true}
use Rattle.std.specs.Prelude.{IsTrue, not, eqb}
use Rattle.std.proofs.lemmas.List.{append-nil, take-append-drop, take-append-le, take_all}
use Rattle.sil_grammar_classes.specs.declared.classes.Class.{Class}
use Rattle.sil_grammar_shape.specs.declared.steps.Step.{Step}
use Rattle.sil_grammar_shape.specs.Derivation.{HasShape, BeginsShape, IsFirstBad, IsDerivation}

BeginsShape-take : (n : ℕ) (xs : List Class) → BeginsShape xs → BeginsShape (take n xs)
BeginsShape-take n xs b =
    let all : take n xs ++ (drop n xs ++ b.0) ≡ xs ++ b.0 = sym (append_assoc (take n xs) (drop n xs) b.0) ∙ ap (λ l. l ++ b.0) (take-append-drop n xs) in
    (drop n xs ++ b.0, subst HasShape (sym all) b.1)

pub BeginsShape-derived : (all ks : List Class) (steps : List Step) → all ≡ ks → IsDerivation all steps → BeginsShape ks
BeginsShape-derived all ks steps e d =
    let shape : HasShape all = (steps, d.derives) in
    ([], subst HasShape (e ∙ sym (append-nil ks)) shape)

module _ (front : List Class) (next : Class) where
  long : length (front ++ next ∷ []) ≡ length front + 1
  long = length-append front (next ∷ [])

  -- refused at its last class, the list doesn't go on
  bad_there : (place : ℕ) → place ≡ length front → IsFirstBad (front ++ next ∷ []) place → BeginsShape (front ++ next ∷ []) → ⊥
  bad_there place e bad begins =
      bad.bad (omega (arith, long)) (subst BeginsShape (sym (take_all (place + 1) (front ++ next ∷ []) (omega (arith, long)))) begins)

  -- refused elsewhere, it is refused at its end
  bad_later : (place : ℕ) → (place ≡ length front → ⊥) → BeginsShape front → IsFirstBad (front ++ next ∷ []) place → BeginsShape (front ++ next ∷ [])
  bad_later place ne good bad = elim (cases_lt place (length front)) [
    | inl below ↦
        let shorter = BeginsShape-take (place + 1) front good in
        let same : take (place + 1) (front ++ next ∷ []) ≡ take (place + 1) front = take-append-le (place + 1) front (next ∷ []) (omega arith) in
        absurd (bad.bad (omega (arith, long)) (subst BeginsShape (sym same) shorter))
    | inr above ↦
        let last : length (front ++ next ∷ []) ≤ place = omega (arith, long, ne) in
        subst BeginsShape (take_all place (front ++ next ∷ []) last) bad.good
  ]

pub goes_on_unless : (front all : List Class) (next : Class) (place : ℕ) → all ≡ front ++ next ∷ [] → BeginsShape front → IsFirstBad all place
    → (IsTrue (not (eqb place (length front))) → BeginsShape (front ++ next ∷ [])) × (BeginsShape (front ++ next ∷ []) → IsTrue (not (eqb place (length front))))
goes_on_unless front all next place e good first =
    let here = subst (λ l. IsFirstBad l place) e first in (
      λ t. bad_later front next place (eqb-false place (length front) (not-true (eqb place (length front)) t)) good here,
      λ begins. not_from_false (eqb place (length front)) (false_from_ne_true (eqb place (length front)) (λ t. bad_there front next place (eqb-true place (length front) t) here begins)),
    )
