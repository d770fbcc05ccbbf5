-- What the stack means: the lists that begin with the classes so far are these classes and then what the stack derives.
use Rattle.std.proofs.Common.{◌≡◌, ℕ, ◌+◌, ◌<◌, ◌≤◌, List, [], ◌∷◌, ◌++◌, length, take, get_or, refl, ap, sym, subst, ◌∙◌, append_assoc, arith}
use Rattle.std.specs.Prelude.{Option, Some, None}
use Rattle.std.proofs.lemmas.List.{append-nil, take_more, take_all}
use Rattle.std.proofs.Math.Seq.{take-length}
use Rattle.std.proofs.lemmas.Option.{same_Some}
use Rattle.sil_grammar_classes.specs.declared.classes.Class.{Class}
use Rattle.sil_grammar_tables.specs.declared.grammar.Nonterminal.{Nonterminal}
use Rattle.sil_grammar_tables.specs.declared.grammar.Symbol.{Symbol}
use Rattle.sil_grammar_tables.specs.declared.grammar.Symbol.TheVariants.{Read, Part}
use Rattle.sil_grammar_tables.specs.declared.grammar.Production.{Production}
use Rattle.sil_grammar_shape.specs.declared.steps.Step.{Step}
use Rattle.sil_grammar_shape.specs.declared.steps.Step.TheVariants.{Take, Expand}
use Rattle.sil_grammar_tables.specs.Grammar.{written, body}
use Rattle.sil_grammar_shape.specs.inner.Choice.{choose}
use Rattle.sil_grammar_shape.specs.Derivation.{Accepts, Derives, nothing, token, rule, start, HasShape, BeginsShape, IsFirstBad, IsDerivation}
use Rattle.sil_grammar_shape.specs.inner.Begun.{LeadsTo}
use Rattle.sil_grammar_shape.specs.inner.Turns.{Turns, stay, turn, IsStuck, IsStuckAt, Takes, Refuses}
use Rattle.sil_grammar_shape.proofs.Derived.{Derives-nothing}
use Rattle.sil_grammar_shape.proofs.NextClasses.{look, Fits, Fits-expand, choose-way, Inner, Derives-inner, FitsOne, FitsOne-start}
use Rattle.sil_grammar_shape.proofs.Shortened.{shortened, Shortens-derives}

-- what the next token is known to be, if anything
abbrev pub IsAhead : Option (Option Class) → Option Class → Type 0
IsAhead None l = Unit {0}
IsAhead (Some k) l = l ≡ k

pub record Reached (front : List Class) (stack : List Symbol) (steps : List Step) (ahead : Option (Option Class)) : Type 0 where
  pub fits : Fits stack
  pub onward : (ks : List Class) (more : List Step) → Derives stack ks more → Derives start (front ++ ks) (steps ++ more)
  pub back : (ks : List Class) (all : List Step) → IsAhead ahead (look ks) → Derives start (front ++ ks) all → (more : List Step) × Derives stack ks more × (all ≡ steps ++ more)

pub Reached-start : Reached [] start [] None
Reached-start = record { fits = (FitsOne-start, tt); onward = λ ks more d. d; back = λ ks all u d. (all, d, refl) }

pub Reached-see : {front : List Class} {stack : List Symbol} {steps : List Step} (l : Option Class) → Reached front stack steps None → Reached front stack steps (Some l)
Reached-see l r = record { fits = r.fits; onward = r.onward; back = λ ks all h d. r.back ks all tt d }

fits_expand : (part : Nonterminal) (p : Production) (ss : List Symbol) → written p ≡ part → Fits (Part part ∷ ss) → Fits (body p ++ ss)
fits_expand part p ss e h = Fits-expand p ss (subst (λ x. Fits (Part x ∷ ss)) (sym e) h)

expand_at : (part : Nonterminal) (p : Production) {ss : List Symbol} {ks : List Class} {more : List Step}
    → written p ≡ part → Derives (body p ++ ss) ks more → Derives (Part part ∷ ss) ks (Expand p ∷ more)
expand_at part p {ss = ss} {ks = ks} {more = more} e d = subst (λ x. Derives (Part x ∷ ss) ks (Expand p ∷ more)) e (rule p d)

inner_by : (part : Nonterminal) (p : Production) {ss : List Symbol} {ks : List Class} {all : List Step} (l : Option Class)
    → choose part l ≡ Some p → look ks ≡ l → Inner part ss ks all → (more : List Step) × Derives (body p ++ ss) ks more × (all ≡ Expand p ∷ more)
inner_by part p {ss = ss} {ks = ks} {all = all} l choice ahead i =
    let same : i.production ≡ p = same_Some _ _ (sym i.choice ∙ ap (choose part) ahead ∙ choice) in
    (i.rest, subst (λ q. Derives (body q ++ ss) ks i.rest) same i.derives, i.steps_are ∙ ap (λ q. Expand q ∷ i.rest) same)

-- a step more
step_more : (steps : List Step) (s : Step) (more all : List Step) {rest : List Step} → all ≡ steps ++ more → more ≡ s ∷ rest → all ≡ (steps ++ s ∷ []) ++ rest
step_more steps s more all {rest = rest} e f = e ∙ ap (λ l. steps ++ l) f ∙ sym (append_assoc steps (s ∷ []) rest)

pub Reached-expand : {front : List Class} {ss : List Symbol} {steps : List Step} (part : Nonterminal) (p : Production) (l : Option Class)
    → choose part l ≡ Some p → Reached front (Part part ∷ ss) steps (Some l) → Reached front (body p ++ ss) (steps ++ Expand p ∷ []) (Some l)
Reached-expand {front = front} {ss = ss} {steps = steps} part p l choice r =
    let way = choose-way part l p choice in
    record {
      fits = fits_expand part p ss way r.fits;
      onward = λ ks more d. rw (append_assoc steps (Expand p ∷ []) more) (r.onward ks (Expand p ∷ more) (expand_at part p way d));
      back = λ ks all ahead d.
          let before = r.back ks all ahead d in
          let inner = inner_by part p l choice ahead (Derives-inner part r.fits.0 before.1) in
          (inner.0, inner.1, step_more steps (Expand p) before.0 all before.2 inner.2);
    }

take_back : (s : Symbol) (k : Class) {ss : List Symbol} {ks : List Class} {all : List Step} → Accepts s k
    → Derives (s ∷ ss) (k ∷ ks) all → (more : List Step) × Derives ss ks more × (all ≡ Take ∷ more)
take_back s k a (token {steps = steps} b d) = (steps, d, refl)
take_back _ k a (rule p d) = absurd a

pub Reached-take : {front : List Class} {ss : List Symbol} {steps : List Step} (s : Symbol) (k : Class)
    → Accepts s k → Reached front (s ∷ ss) steps (Some (Some k)) → Reached (front ++ k ∷ []) ss (steps ++ Take ∷ []) None
Reached-take {front = front} {ss = ss} {steps = steps} s k a r = record {
  fits = r.fits.1;
  onward = λ ks more d. rw (append_assoc front (k ∷ []) ks, append_assoc steps (Take ∷ []) more) (r.onward (k ∷ ks) (Take ∷ more) (token a d));
  back = λ ks all u d.
      let before = r.back (k ∷ ks) all refl (rw (append_assoc front (k ∷ []) ks) at d) in
      let inner = take_back s k a before.1 in
      (inner.0, inner.1, step_more steps Take before.0 all before.2 inner.2);
}

pub Reached-turns : {front : List Class} {stack : List Symbol} {steps : List Step} {l : Option Class} {new_stack : List Symbol} {new_steps : List Step}
    → Reached front stack steps (Some l) → Turns l stack steps new_stack new_steps → Reached front new_stack new_steps (Some l)
Reached-turns r stay = r
Reached-turns {l = l} r (turn {part = part} p choice t) = Reached-expand part p l choice (Reached-turns r t)

-- the classes so far begin a list that has shape, since the stack derives some list
pub Reached-begins : {front : List Class} {stack : List Symbol} {steps : List Step} {ahead : Option (Option Class)} → Reached front stack steps ahead → BeginsShape front
Reached-begins {stack = stack} {steps = steps} r =
    let rest = shortened stack in
    let derived = Shortens-derives rest.1 in
    (derived.0, (steps ++ rest.0, r.onward derived.0 rest.0 derived.1))

-- a stack that is stuck derives nothing that looks so
no_choice : (part : Nonterminal) (l : Option Class) {ss : List Symbol} {ks : List Class} {all : List Step} → choose part l ≡ None → look ks ≡ l → Inner part ss ks all → ⊥
no_choice part l none ahead i =
    let both : Some i.production ≡ None = sym i.choice ∙ ap (choose part) ahead ∙ none in cc

token_stuck : (l : Option Class) (s : Symbol) (k : Class) → IsStuckAt l s → Accepts s k → Some k ≡ l → ⊥
token_stuck l (Part part) k h a e = absurd a
token_stuck None s k h a e = cc
token_stuck (Some wanted) (Read terminal) k h a e = h (subst (λ x. Accepts (Read terminal) x) (same_Some _ _ e) a)

symbol_stuck : (l : Option Class) (s : Symbol) {ss : List Symbol} {ks : List Class} {all : List Step} → IsStuckAt l s → FitsOne s ss → look ks ≡ l → Derives (s ∷ ss) ks all → ⊥
symbol_stuck l s h f e (token {k = k} a d) = token_stuck l s k h a e
symbol_stuck l _ h f e (rule p d) = no_choice (written p) l h e (Derives-inner (written p) f (rule p d))

stuck : (l : Option Class) (ss : List Symbol) {ks : List Class} {all : List Step} → IsStuck l ss → Fits ss → look ks ≡ l → Derives ss ks all → ⊥
stuck None [] h f e d = absurd h
stuck (Some k) [] h f e nothing = cc
stuck None (s ∷ ss) h f e d = symbol_stuck None s h f.0 e d
stuck (Some k) (s ∷ ss) h f e d = symbol_stuck (Some k) s h f.0 e d

pub Reached-refuses : {front : List Class} {stack last_stack : List Symbol} {steps last_steps : List Step} (l : Option Class)
    → Reached front stack steps None → Refuses l stack steps last_stack last_steps → (ks : List Class) → look ks ≡ l → HasShape (front ++ ks) → ⊥
Reached-refuses {last_stack = last_stack} l r refused ks e shape =
    let last = Reached-turns (Reached-see l r) refused.turns in
    let found = last.back ks shape.0 e shape.1 in
    stuck l last_stack refused.stuck last.fits e found.1

-- the steps up to there lead to what is left on its stack
leads_to : {front : List Class} {stack last_stack : List Symbol} {steps last_steps : List Step} (l : Option Class)
    → Reached front stack steps None → Refuses l stack steps last_stack last_steps → LeadsTo front last_steps last_stack
leads_to l r refused = (Reached-turns (Reached-see l r) refused.turns).onward

-- the whole list was taken
pub Reached-whole : {front : List Class} {stack : List Symbol} {steps new_steps : List Step}
    → Reached front stack steps None → Turns None stack steps [] new_steps → IsDerivation front new_steps
Reached-whole {front = front} {new_steps = new_steps} r t =
    let last = Reached-turns (Reached-see None r) t in
    record {
      derives = rw (append-nil front, append-nil new_steps) at (last.onward [] [] nothing);
      only = λ others d.
          let found = last.back [] others refl (rw (← append-nil front) at d) in
          found.2 ∙ ap (λ l. new_steps ++ l) (Derives-nothing found.1) ∙ append-nil new_steps;
    }

pub Reached-takes : {front : List Class} {stack : List Symbol} {steps : List Step} (k : Class) {new_stack : List Symbol} {new_steps : List Step}
    → Reached front stack steps None → Takes k stack steps new_stack new_steps → Reached (front ++ k ∷ []) new_stack new_steps None
Reached-takes k r took =
    rw took.steps_are (Reached-take took.symbol k took.accepted (Reached-turns (Reached-see (Some k) r) took.turns))

-- a refusal at a class, and at the end of the list
module _ (classes : List Class) (place : ℕ) {stack last_stack : List Symbol} {steps last_steps : List Step} (r : Reached (take place classes) stack steps None) where
  pub first_bad_inside : (d : Class) → place < length classes → Refuses (Some (get_or classes place d)) stack steps last_stack last_steps
      → IsFirstBad classes place × LeadsTo (take place classes) last_steps last_stack
  first_bad_inside d h refused =
      let k = get_or classes place d in (
        record {
          inside = omega arith;
          good = Reached-begins r;
          bad = λ below begins.
              Reached-refuses (Some k) r refused (k ∷ begins.0) refl
              (subst HasShape (append_assoc (take place classes) (k ∷ []) begins.0) (subst (λ l. HasShape (l ++ begins.0)) (take_more classes place d h) begins.1));
          end = λ is_end. absurd (omega arith);
        },
        leads_to (Some k) r refused,
      )

  pub first_bad_end : length classes ≤ place → Refuses None stack steps last_stack last_steps
      → IsFirstBad classes (length classes) × LeadsTo (take (length classes) classes) last_steps last_stack
  first_bad_end h refused =
      let all = take_all place classes h in (
        record {
          inside = omega arith;
          good = rw (take-length, ← all) (Reached-begins r);
          bad = λ below. absurd (omega arith);
          end = λ e shape. Reached-refuses None r refused [] refl (rw (append-nil, all) shape);
        },
        rw (take-length, ← all) (leads_to None r refused),
      )

-- the next class was taken, and all were taken
pub Reached-next : (classes : List Class) (place : ℕ) (d : Class) {stack : List Symbol} {steps : List Step} {new_stack : List Symbol} {new_steps : List Step}
    → place < length classes → Reached (take place classes) stack steps None → Takes (get_or classes place d) stack steps new_stack new_steps
    → Reached (take (place + 1) classes) new_stack new_steps None
Reached-next classes place d h r took = rw (take_more classes place d h) (Reached-takes (get_or classes place d) r took)

pub Reached-all : (classes : List Class) (place : ℕ) {stack : List Symbol} {steps : List Step} {new_steps : List Step}
    → length classes ≤ place → Reached (take place classes) stack steps None → Turns None stack steps [] new_steps → IsDerivation classes new_steps
Reached-all classes place {new_steps = new_steps} h r t = subst (λ l. IsDerivation l new_steps) (take_all place classes h) (Reached-whole r t)
