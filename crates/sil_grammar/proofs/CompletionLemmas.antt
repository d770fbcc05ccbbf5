-- Classes begin one shortest module at most.
use Rattle.std.proofs.Common.{◌≡◌, List, [], ◌∷◌, ◌++◌, refl, ap, sym, subst, ◌∙◌}
use Rattle.std.specs.Prelude.{Some}
use Rattle.std.proofs.lemmas.Option.{same_Some}
use Rattle.sil_grammar_classes.specs.declared.classes.Class.{Class}
use Rattle.sil_grammar_tables.specs.declared.grammar.Nonterminal.{Nonterminal}
use Rattle.sil_grammar_tables.specs.declared.grammar.Symbol.{Symbol}
use Rattle.sil_grammar_tables.specs.declared.grammar.Symbol.TheVariants.{Part}
use Rattle.sil_grammar_tables.specs.declared.grammar.Production.{Production}
use Rattle.sil_grammar_shape.specs.declared.steps.Step.{Step}
use Rattle.sil_grammar_shape.specs.declared.steps.Step.TheVariants.{Take, Expand}
use Rattle.sil_grammar_shape.specs.inner.Choice.{choose}
use Rattle.sil_grammar_shape.specs.Derivation.{Accepts, BeginsShape, Derives, token, rule}
use Rattle.sil_grammar_tables.specs.Grammar.{written, body}
use Rattle.sil_grammar_shape.specs.Shortest.{shortest_step, Shortens, written as nothing_left, step}
use Rattle.sil_grammar_shape.proofs.NextClasses.{Derives-inner, Fits, Fits-expand, FitsOne, FitsOne-start}
use Rattle.sil_grammar_shape.proofs.Shortened.{Shortens-derives}
use Rattle.sil_grammar.specs.Completion.{Completes, IsShortestFrom, behind, taken, expanded}

Shortens-once : {ss : List Symbol} {steps others : List Step} → Shortens ss steps → Shortens ss others → others ≡ steps
Shortens-once nothing_left nothing_left = refl
Shortens-once (step s h) (step _ o) = ap (λ l. shortest_step s ∷ l) (Shortens-once h o)

-- what completes classes derives them and some that come after them
pub Completes-derives : {ss : List Symbol} {ks : List Class} {steps : List Step} → Completes ss ks steps → (more : List Class) × Derives ss (ks ++ more) steps
Completes-derives (behind h) = Shortens-derives h
Completes-derives (taken a c) = let d = Completes-derives c in (d.0, token a d.1)
Completes-derives (expanded p c) = let d = Completes-derives c in (d.0, rule p d.1)

pub shortest_begins : {ks : List Class} {steps : List Step} → IsShortestFrom ks steps → BeginsShape ks
shortest_begins {steps = steps} c = let d = Completes-derives c in (d.0, (steps, d.1))

-- without a class the shortest way is left
only_shortest : {ss : List Symbol} {steps : List Step} → Completes ss [] steps → Shortens ss steps
only_shortest (behind h) = h

-- what is left once the first token is taken
record Taken (ss : List Symbol) (ks : List Class) (steps : List Step) : Type 0 where
  pub rest : List Step
  pub completes : Completes ss ks rest
  pub steps_are : steps ≡ Take ∷ rest

after_token : (s : Symbol) {k : Class} {ss : List Symbol} {ks : List Class} {steps : List Step} → Accepts s k → Completes (s ∷ ss) (k ∷ ks) steps → Taken ss ks steps
after_token s a (taken {steps = steps} b c) = record { rest = steps; completes = c; steps_are = refl }
after_token _ a (expanded p c) = absurd a

-- the first class chooses what a part gives way to
pub record Inner (part : Nonterminal) (k : Class) (ss : List Symbol) (ks : List Class) (steps : List Step) : Type 0 where
  pub production : Production
  pub rest : List Step
  pub choice : choose part (Some k) ≡ Some production
  pub completes : Completes (body production ++ ss) (k ∷ ks) rest
  pub steps_are : steps ≡ Expand production ∷ rest

pub inner : (part : Nonterminal) {k : Class} {ss : List Symbol} {ks : List Class} {steps : List Step} → FitsOne (Part part) ss
    → Completes (Part part ∷ ss) (k ∷ ks) steps → Inner part k ss ks steps
inner part after (taken a c) = absurd a
inner _ after (expanded {steps = steps} p c) =
    let here = Derives-inner (written p) after (rule p (Completes-derives c).1) in
    let this : p ≡ here.production = cc here.steps_are in
    record { production = p; rest = steps; choice = here.choice ∙ ap Some (sym this); completes = c; steps_are = refl }

completed_once : {ss : List Symbol} {ks : List Class} {steps others : List Step} → Fits ss → Completes ss ks steps → Completes ss ks others → others ≡ steps
completed_once fits (behind h) o = Shortens-once h (only_shortest o)
completed_once fits (taken {s = s} a c) o =
    let t = after_token s a o in
    t.steps_are ∙ ap (λ l. Take ∷ l) (completed_once fits.1 c t.completes)
completed_once fits (expanded {k = k} {ss = ss} {ks = ks} {steps = steps} p c) o =
    let here = inner (written p) fits.0 (expanded {k = k} {ss = ss} {ks = ks} {steps = steps} p c) in
    let there = inner (written p) fits.0 o in
    let same : there.production ≡ here.production = same_Some _ _ (sym there.choice ∙ here.choice) in
    let this : p ≡ here.production = cc here.steps_are in
    let inside = subst (λ q. Completes (body q ++ ss) (k ∷ ks) there.rest) (same ∙ sym this) there.completes in
    let rest : there.rest ≡ steps = completed_once (Fits-expand p ss fits) c inside in
    cc (there.steps_are, same, this, rest)

pub shortest_once : {ks : List Class} {steps others : List Step} → IsShortestFrom ks steps → IsShortestFrom ks others → others ≡ steps
shortest_once c o = completed_once (FitsOne-start, tt) c o
