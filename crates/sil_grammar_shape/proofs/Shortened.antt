-- The shortest way to write a stack: there is one, and it gives a list that the stack derives.
use Rattle.std.proofs.Common.{◌≡◌, ℕ, zero, suc, ◌+◌, ◌<◌, List, [], ◌∷◌, ◌++◌, refl, sym, subst, append_assoc, arith}
use Rattle.std.proofs.lemmas.Bool.{eqb-true}
use Rattle.std.proofs.lemmas.List.{append-nil}
use Rattle.sil_grammar_classes.specs.declared.classes.Class.{Class}
use Rattle.sil_grammar_tables.specs.declared.grammar.Terminal.{Terminal}
use Rattle.sil_grammar_tables.specs.declared.grammar.Terminal.TheVariants as t
use Rattle.sil_grammar_tables.specs.declared.grammar.Symbol.{Symbol}
use Rattle.sil_grammar_tables.specs.declared.grammar.Symbol.TheVariants.{Read, Part}
use Rattle.sil_grammar_shape.specs.declared.steps.Step.{Step}
use Rattle.sil_grammar_shape.specs.declared.steps.Step.TheVariants.{Expand}
use Rattle.sil_grammar_shape.specs.Accepts.{Suits}
use Rattle.sil_grammar_tables.specs.Grammar.{body}
use Rattle.sil_grammar_tables.specs.Rows.{ends_block}
use Rattle.sil_grammar_shape.specs.Derivation.{Derives, nothing, token, rule}
use Rattle.sil_grammar_shape.specs.Shortest.{shortest_step, after_step, Shortens, written, step}
use Rattle.sil_grammar_tables.specs.Shortest.{shortest}
use Rattle.sil_grammar_shape.proofs.Sets.{needed}
use Rattle.sil_grammar_shape.proofs.Computed.{needed_one, needed_all, example, computed_needed, shortest-way}

needed_all-append : (ss rr : List Symbol) → needed_all (ss ++ rr) ≡ needed_all ss + needed_all rr
unfolding needed_all
needed_all-append [] rr = omega arith
needed_all-append (s ∷ ss) rr = omega (arith, needed_all-append ss rr)

-- a step leaves one step less
needed-step : (s : Symbol) (ss : List Symbol) → needed_all (after_step s ++ ss) + 1 ≡ needed_all (s ∷ ss)
unfolding needed_one needed_all
needed-step (Read t) ss = omega arith
needed-step (Part part) ss =
    let here : needed_all (body (shortest part)) + 1 ≡ needed part = eqb-true _ _ (computed_needed part) in
    omega (arith, here, needed_all-append (body (shortest part)) ss)

pub fewer : (s : Symbol) {stack rest new : List Symbol} → stack ≡ s ∷ rest → new ≡ after_step s ++ rest → needed_all new < needed_all stack
fewer s {rest = rest} popped pushed = rw (popped, pushed) (omega (arith, needed-step s rest))

Suits-example : (t : Terminal) → Suits t (example t)
unfolding example ends_block
Suits-example t.AnyWord = refl
Suits-example t.TypeWord = refl
Suits-example t.AnyAt = refl
Suits-example t.AnyText = refl
Suits-example t.RowWord = refl
Suits-example t.EndWord = refl
Suits-example (t.Just wanted) = refl

-- the classes that a step takes
abbrev examples : Symbol → List Class
examples (Read t) = example t ∷ []
examples (Part part) = []

Derives-step : (s : Symbol) {ss : List Symbol} {ks : List Class} {more : List Step} → Derives (after_step s ++ ss) ks more → Derives (s ∷ ss) (examples s ++ ks) (shortest_step s ∷ more)
Derives-step (Read t) d = token (Suits-example t) d
Derives-step (Part part) {ss = ss} {ks = ks} {more = more} d =
    subst (λ x. Derives (Part x ∷ ss) ks (Expand (shortest part) ∷ more)) (shortest-way part) (rule (shortest part) d)

-- what writes a stack derives some classes from it
pub Shortens-derives : {ss : List Symbol} {steps : List Step} → Shortens ss steps → (classes : List Class) × Derives ss classes steps
Shortens-derives written = ([], nothing)
Shortens-derives (step s h) = let d = Shortens-derives h in (examples s ++ d.0, Derives-step s d.1)

shortened_within : (n : ℕ) (ss : List Symbol) → needed_all ss < n → (steps : List Step) × Shortens ss steps
shortened_within zero ss h = absurd (omega (arith, h))
shortened_within (suc n) [] h = ([], written)
shortened_within (suc n) (s ∷ ss) h =
    let rest = shortened_within n (after_step s ++ ss) (omega (arith, h, needed-step s ss)) in
    (shortest_step s ∷ rest.0, step s rest.1)

pub shortened : (ss : List Symbol) → (steps : List Step) × Shortens ss steps
shortened ss = shortened_within (needed_all ss + 1) ss (omega arith)

-- the steps lead from the first stack to this one: they go on with the steps of the shortest way to write it
abbrev pub Shortening : List Symbol → List Symbol → List Step → Type 0
Shortening first stack steps = (rest : List Step) → Shortens stack rest → Shortens first (steps ++ rest)

pub Shortening-start : {first stack : List Symbol} (steps : List Step) → stack ≡ first → steps ≡ [] → Shortening first stack steps
Shortening-start steps is none = λ rest h. rw none (rw is at h)

pub Shortening-step : (s : Symbol) {first stack rest new : List Symbol} (steps : List Step) {new_steps : List Step} → Shortening first stack steps
    → stack ≡ s ∷ rest → new ≡ after_step s ++ rest → new_steps ≡ steps ++ shortest_step s ∷ [] → Shortening first new new_steps
Shortening-step s {first = first} steps h popped pushed steps_are = λ more way.
    let longer = h (shortest_step s ∷ more) (subst (λ ss. Shortens ss (shortest_step s ∷ more)) (sym popped) (step s (subst (λ ss. Shortens ss more) pushed way))) in
    rw (steps_are, append_assoc steps (shortest_step s ∷ []) more) longer

pub Shortening-end : {first stack : List Symbol} (steps : List Step) → Shortening first stack steps → stack ≡ [] → Shortens first steps
Shortening-end steps h empty = rw (append-nil steps) at (h [] (rw empty written))
