-- What comes next decides the production: the table is right and complete for stacks that fit the grammar.
use Rattle.std.proofs.Common.{◌≡◌, ◌⊎◌, inl, inr, List, [], ◌∷◌, ◌++◌, refl, subst, Bool, true, false}
use Rattle.std.specs.Prelude.{Option, Some, None, ◌&&◌, ◌||◌}
use Rattle.std.proofs.lemmas.Bool.{and_parts, and_from, or_cases, or_left, or_right, false≢true}
use Rattle.sil_grammar_classes.specs.declared.classes.Class.{Class}
use Rattle.sil_grammar_tables.specs.declared.grammar.Nonterminal.{Nonterminal}
use Rattle.sil_grammar_tables.specs.declared.grammar.Nonterminal.TheVariants as n
use Rattle.sil_grammar_tables.specs.declared.grammar.Symbol.{Symbol}
use Rattle.sil_grammar_tables.specs.declared.grammar.Symbol.TheVariants.{Read, Part}
use Rattle.sil_grammar_tables.specs.declared.grammar.Production.{Production}
use Rattle.sil_grammar_tables.specs.Grammar.{written, body}
use Rattle.sil_grammar_shape.specs.inner.Choice.{has, choose}
use Rattle.sil_grammar_shape.specs.declared.steps.Step.{Step}
use Rattle.sil_grammar_shape.specs.declared.steps.Step.TheVariants.{Expand}
use Rattle.sil_grammar_shape.specs.Derivation.{Accepts, Derives, nothing, token, rule}
use Rattle.sil_grammar_shape.proofs.Sets.{first, nullable}
use Rattle.sil_grammar_shape.proofs.SuitsLemmas.{accepts-suits}
use Rattle.sil_grammar_shape.proofs.Numbered.{each_look-at, is_it, is_it_some, same_part}
use Rattle.sil_grammar_shape.proofs.Computed.{follows, begins_one, begins, vanishes_one, vanishes, implies, comes, fits_one, fits, is_way}
use Rattle.sil_grammar_shape.proofs.Computed.{computed_first, computed_nullable, computed_follow, computed_choice, computed_way, follows-start}

-- the class that comes next, if any does
abbrev pub look : List Class → Option Class
look [] = None
look (k ∷ ks) = Some k

unfoldable pub is_end : Option Class → Bool
is_end None = true
is_end (Some k) = false

-- whether a text of these symbols may look so
unfoldable pub looks_like : List Symbol → Option Class → Bool
looks_like ss l = begins ss l || (vanishes ss && is_end l)

implied : (a b : Bool) → implies a b ≡ true → a ≡ true → b ≡ true
unfolding implies
implied true b h e = h
implied false b h e = absurd (false≢true e)

begins-append : (ss rr : List Symbol) (l : Option Class) → begins (ss ++ rr) l ≡ true → (begins ss l ≡ true) ⊎ ((vanishes ss ≡ true) × (begins rr l ≡ true))
unfolding begins vanishes
begins-append [] rr l h = inr (refl, h)
begins-append (s ∷ ss) rr l h =
    elim (or_cases (begins_one s l) (vanishes_one s && begins (ss ++ rr) l) h) [
      | inl a ↦ inl (or_left (begins_one s l) (vanishes_one s && begins ss l) a)
      | inr b ↦
          let both = and_parts (vanishes_one s) (begins (ss ++ rr) l) b in
          elim (begins-append ss rr l both.1) [
            | inl here ↦ inl (or_right (begins_one s l) (vanishes_one s && begins ss l) (and_from (vanishes_one s) (begins ss l) both.0 here))
            | inr later ↦ inr (and_from (vanishes_one s) (vanishes ss) both.0 later.0, later.1)
          ]
    ]

vanishes-append : (ss rr : List Symbol) → vanishes (ss ++ rr) ≡ true → (vanishes ss ≡ true) × (vanishes rr ≡ true)
unfolding vanishes
vanishes-append [] rr h = (refl, h)
vanishes-append (s ∷ ss) rr h =
    let both = and_parts (vanishes_one s) (vanishes (ss ++ rr)) h in
    let rest = vanishes-append ss rr both.1 in
    (and_from (vanishes_one s) (vanishes ss) both.0 rest.0, rest.1)

looks_like-append : (ss rr : List Symbol) (l : Option Class) → looks_like (ss ++ rr) l ≡ true → (begins ss l ≡ true) ⊎ ((vanishes ss ≡ true) × (looks_like rr l ≡ true))
unfolding looks_like
looks_like-append ss rr l h =
    elim (or_cases (begins (ss ++ rr) l) (vanishes (ss ++ rr) && is_end l) h) [
      | inl a ↦ elim (begins-append ss rr l a) [
        | inl here ↦ inl here
        | inr later ↦ inr (later.0, or_left (begins rr l) (vanishes rr && is_end l) later.1)
      ]
      | inr b ↦
          let both = and_parts (vanishes (ss ++ rr)) (is_end l) b in
          let parts = vanishes-append ss rr both.0 in
          inr (parts.0, or_right (begins rr l) (vanishes rr && is_end l) (and_from (vanishes rr) (is_end l) parts.1 both.1))
    ]

starts_now : (s : Symbol) (ss : List Symbol) (l : Option Class) → begins_one s l ≡ true → looks_like (s ∷ ss) l ≡ true
unfolding looks_like begins
starts_now s ss l h =
    or_left (begins (s ∷ ss) l) (vanishes (s ∷ ss) && is_end l) (or_left (begins_one s l) (vanishes_one s && begins ss l) h)

starts_later : (s : Symbol) (ss : List Symbol) (l : Option Class) → vanishes_one s ≡ true → looks_like ss l ≡ true → looks_like (s ∷ ss) l ≡ true
unfolding looks_like begins vanishes
starts_later s ss l v h =
    elim (or_cases (begins ss l) (vanishes ss && is_end l) h) [
      | inl a ↦ or_left (begins (s ∷ ss) l) (vanishes (s ∷ ss) && is_end l) (or_right (begins_one s l) (vanishes_one s && begins ss l) (and_from (vanishes_one s) (begins ss l) v a))
      | inr b ↦
          let both = and_parts (vanishes ss) (is_end l) b in
          or_right (begins (s ∷ ss) l) (vanishes (s ∷ ss) && is_end l) (and_from (vanishes (s ∷ ss)) (is_end l) (and_from (vanishes_one s) (vanishes ss) v both.0) both.1)
    ]

accepted : (s : Symbol) (k : Class) → Accepts s k → begins_one s (Some k) ≡ true
unfolding begins_one
accepted (Read t) k a = (accepts-suits t k).1 a
accepted (Part part) k a = absurd a

begins_part : (p : Production) (l : Option Class) → begins (body p) l ≡ true → begins_one (Part (written p)) l ≡ true
unfolding begins_one
begins_part p l h = implied (begins (body p) l) (has (first (written p)) l) (each_look-at (λ l. implies (begins (body p) l) (has (first (written p)) l)) (computed_first p) l) h

pub vanishes_part : (p : Production) → vanishes (body p) ≡ true → vanishes_one (Part (written p)) ≡ true
unfolding vanishes_one
vanishes_part p h = implied (vanishes (body p)) (nullable (written p)) (computed_nullable p) h

-- what is derived looks as the sets say
pub Derives-looks_like : {ss : List Symbol} {ks : List Class} {steps : List Step} → Derives ss ks steps → looks_like ss (look ks) ≡ true
unfolding looks_like begins vanishes is_end
Derives-looks_like nothing = refl
Derives-looks_like (token {s = s} {k = k} {ss = ss} a d) = starts_now s ss (Some k) (accepted s k a)
Derives-looks_like (rule {ss = ss} {ks = ks} p d) =
    elim (looks_like-append (body p) ss (look ks) (Derives-looks_like d)) [
      | inl a ↦ starts_now (Part (written p)) ss (look ks) (begins_part p (look ks) a)
      | inr b ↦ starts_later (Part (written p)) ss (look ks) (vanishes_part p b.0) b.1
    ]

-- what comes after each part of the stack is among what follows it
abbrev pub FitsOne : Symbol → List Symbol → Type 0
FitsOne (Read t) ss = Unit {0}
FitsOne (Part part) ss = (l : Option Class) → looks_like ss l ≡ true → follows part l ≡ true

abbrev pub Fits : List Symbol → Type 0
Fits [] = Unit {0}
Fits (s ∷ ss) = FitsOne s ss × Fits ss

comes_next : (part : Nonterminal) (rest ss : List Symbol) (l : Option Class) → FitsOne (Part part) ss → looks_like (rest ++ ss) l ≡ true → comes part rest l ≡ true
unfolding comes
comes_next part rest ss l after h =
    elim (looks_like-append rest ss l h) [
      | inl a ↦ or_left (begins rest l) (vanishes rest && follows part l) a
      | inr b ↦ or_right (begins rest l) (vanishes rest && follows part l) (and_from (vanishes rest) (follows part l) b.0 (after l b.1))
    ]

fits_here : (part : Nonterminal) (s : Symbol) (rest ss : List Symbol) → fits_one part s rest ≡ true → FitsOne (Part part) ss → FitsOne s (rest ++ ss)
unfolding fits_one
fits_here part (Read t) rest ss h after = tt
fits_here part (Part inner) rest ss h after = λ l e.
    implied (comes part rest l) (follows inner l)
    (each_look-at (λ l. implies (comes part rest l) (follows inner l)) h l)
    (comes_next part rest ss l after e)

Fits-body : (part : Nonterminal) (rest ss : List Symbol) → fits part rest ≡ true → FitsOne (Part part) ss → Fits ss → Fits (rest ++ ss)
unfolding fits
Fits-body part [] ss h after below = below
Fits-body part (s ∷ rest) ss h after below =
    let both = and_parts (fits_one part s rest) (fits part rest) h in
    (fits_here part s rest ss both.0 after, Fits-body part rest ss both.1 after below)

pub Fits-expand : (p : Production) (ss : List Symbol) → Fits (Part (written p) ∷ ss) → Fits (body p ++ ss)
Fits-expand p ss h = Fits-body (written p) (body p) ss (computed_follow p) h.0 h.1

chosen : (p : Production) (ss : List Symbol) (l : Option Class) → FitsOne (Part (written p)) ss → looks_like (body p ++ ss) l ≡ true → choose (written p) l ≡ Some p
chosen p ss l after h =
    is_it_some (choose (written p) l) p
    (implied (comes (written p) (body p) l) (is_it (choose (written p) l) p)
    (each_look-at (λ l. implies (comes (written p) (body p) l) (is_it (choose (written p) l) p)) (computed_choice p) l)
    (comes_next (written p) (body p) ss l after h))

way_of : (o : Option Production) (part : Nonterminal) (p : Production) → is_way o part ≡ true → o ≡ Some p → written p ≡ part
unfolding is_way
way_of o part p h e = same_part (written p) part (subst (λ x. is_way x part ≡ true) e h)

-- what the table has for a part is a way to write it
pub choose-way : (part : Nonterminal) (l : Option Class) (p : Production) → choose part l ≡ Some p → written p ≡ part
choose-way part l p e = way_of (choose part l) part p (each_look-at (λ l. is_way (choose part l) part) (computed_way part) l) e

-- a text of a part and what follows it goes by the production that its next token chooses
pub record Inner (part : Nonterminal) (ss : List Symbol) (ks : List Class) (steps : List Step) : Type 0 where
  pub production : Production
  pub rest : List Step
  pub choice : choose part (look ks) ≡ Some production
  pub derives : Derives (body production ++ ss) ks rest
  pub steps_are : steps ≡ Expand production ∷ rest

pub Derives-inner : (part : Nonterminal) {ss : List Symbol} {ks : List Class} {steps : List Step} → FitsOne (Part part) ss → Derives (Part part ∷ ss) ks steps → Inner part ss ks steps
Derives-inner part after (token a d) = absurd a
Derives-inner _ after (rule {ss = ss} {ks = ks} {steps = steps} p d) =
    record { production = p; rest = steps; choice = chosen p ss (look ks) after (Derives-looks_like d); derives = d; steps_are = refl }

-- only the end may follow a whole text
pub FitsOne-start : FitsOne (Part n.Module) []
unfolding looks_like begins vanishes is_end
FitsOne-start None h = follows-start
FitsOne-start (Some k) h = absurd (false≢true h)
