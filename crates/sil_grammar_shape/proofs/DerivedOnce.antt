-- A list of classes has one derivation, and a list has one first bad place, or has shape.
use Rattle.std.proofs.Common.{◌≡◌, ℕ, ◌+◌, ◌<◌, List, ◌∷◌, ◌++◌, length, take, drop, refl, ap, sym, subst, ◌∙◌, append_assoc, arith, inl, inr}
use Rattle.std.proofs.Math.Nat.{eq-or-lt_of_le}
use Rattle.std.proofs.lemmas.Bool.{cases_order}
use Rattle.std.proofs.lemmas.List.{take-append-drop, take-take}
use Rattle.std.proofs.lemmas.Option.{same_Some}
use Rattle.sil_grammar_classes.specs.declared.classes.Class.{Class}
use Rattle.sil_grammar_tables.specs.declared.grammar.Symbol.{Symbol}
use Rattle.sil_grammar_shape.specs.declared.steps.Step.{Step}
use Rattle.sil_grammar_shape.specs.declared.steps.Step.TheVariants.{Take}
use Rattle.sil_grammar_tables.specs.Grammar.{written, body}
use Rattle.sil_grammar_shape.specs.Derivation.{Accepts, Derives, nothing, token, rule, start, HasShape, BeginsShape, IsFirstBad}
use Rattle.sil_grammar_shape.proofs.Derived.{Derives-nothing}
use Rattle.sil_grammar_shape.proofs.NextClasses.{Fits, Fits-expand, FitsOne-start, Derives-inner}

-- what is left once the first token is taken
record Taken (ss : List Symbol) (ks : List Class) (steps : List Step) : Type 0 where
  pub rest : List Step
  pub derives : Derives ss ks rest
  pub steps_are : steps ≡ Take ∷ rest

taken : (s : Symbol) {k : Class} {ss : List Symbol} {ks : List Class} {steps : List Step} → Accepts s k → Derives (s ∷ ss) (k ∷ ks) steps → Taken ss ks steps
taken s a (token {steps = steps} b d) = record { rest = steps; derives = d; steps_are = refl }
taken _ a (rule p d) = absurd a

derived_once : {ss : List Symbol} {ks : List Class} {steps others : List Step} → Fits ss → Derives ss ks steps → Derives ss ks others → others ≡ steps
derived_once fits nothing e = Derives-nothing e
derived_once fits (token {s = s} a d) e =
    let t = taken s a e in
    t.steps_are ∙ ap (λ l. Take ∷ l) (derived_once fits.1 d t.derives)
derived_once fits (rule {ss = ss} {ks = ks} {steps = steps} p d) e =
    let here = Derives-inner (written p) fits.0 (rule {ss = ss} {ks = ks} {steps = steps} p d) in
    let there = Derives-inner (written p) fits.0 e in
    let same : there.production ≡ here.production = same_Some _ _ (sym there.choice ∙ here.choice) in
    let this : p ≡ here.production = cc here.steps_are in
    let inside = subst (λ q. Derives (body q ++ ss) ks there.rest) (same ∙ sym this) there.derives in
    let rest : there.rest ≡ steps = derived_once (Fits-expand p ss fits) d inside in
    cc (there.steps_are, same, this, rest)

pub steps_once : {ks : List Class} {steps others : List Step} → Derives start ks steps → Derives start ks others → others ≡ steps
steps_once d e = derived_once (FitsOne-start, tt) d e

pub front_begins : (ks : List Class) (n : ℕ) → BeginsShape ks → BeginsShape (take n ks)
front_begins ks n begins =
    let whole : take n ks ++ (drop n ks ++ begins.0) ≡ ks ++ begins.0 =
    sym (append_assoc (take n ks) (drop n ks) begins.0) ∙ ap (λ l. l ++ begins.0) (take-append-drop n ks) in
    (drop n ks ++ begins.0, subst HasShape (sym whole) begins.1)

shape_begins : (ks : List Class) (n : ℕ) → HasShape ks → BeginsShape (take n ks)
shape_begins ks n shape = (drop n ks, subst HasShape (sym (take-append-drop n ks)) shape)

pub no_first_bad : (ks : List Class) (i : ℕ) → HasShape ks → IsFirstBad ks i → ⊥
no_first_bad ks i shape bad =
    elim (eq-or-lt_of_le bad.inside) [
      | inl end ↦ bad.end end shape
      | inr below ↦ bad.bad below (shape_begins ks (i + 1) shape)
    ]

not_before : (ks : List Class) (i j : ℕ) → IsFirstBad ks i → IsFirstBad ks j → i < j → ⊥
not_before ks i j bad later below =
    let inside : i < length ks = omega (arith, later.inside) in
    let front : take (i + 1) (take j ks) ≡ take (i + 1) ks = take-take (i + 1) j ks (omega arith) in
    bad.bad inside (subst BeginsShape front (front_begins (take j ks) (i + 1) later.good))

pub first_bad_once : (ks : List Class) (i j : ℕ) → IsFirstBad ks i → IsFirstBad ks j → i ≡ j
first_bad_once ks i j a b =
    elim (cases_order i j) [
      | inl same ↦ same
      | inr other ↦ elim other [
        | inl below ↦ absurd (not_before ks i j a b below)
        | inr above ↦ absurd (not_before ks j i b a above)
      ]
    ]
