-- A derivation has a value for each symbol: replayed from its last step to its first, it never lacks one.
-- A replay that stands before step `i` has replayed `drop i steps`.
use Rattle.std.proofs.Common.{◌≡◌, ℕ, zero, suc, ◌+◌, List, [], ◌∷◌, ◌++◌, length, drop, refl, arith, length-append}
use Rattle.sil_grammar_classes.specs.declared.classes.Class.{Class}
use Rattle.sil_grammar_tables.specs.declared.grammar.Symbol.{Symbol}
use Rattle.sil_grammar_shape.specs.declared.steps.Step.{Step}
use Rattle.sil_grammar_shape.specs.declared.steps.Step.TheVariants.{Take, Expand}
use Rattle.sil_grammar_tables.specs.Grammar.{body}
use Rattle.sil_grammar_shape.specs.Derivation.{Derives, nothing, token, rule}
use Rattle.sil_grammar_shape.specs.inner.Values.{takes_of, values_left, IsEnough}

pub takes_of-derives : {ss : List Symbol} {ks : List Class} {steps : List Step} → Derives ss ks steps → takes_of steps ≡ length ks
takes_of-derives nothing = refl
takes_of-derives (token a d) = omega (arith, takes_of-derives d)
takes_of-derives (rule p d) = takes_of-derives d

pub values_left-derives : {ss : List Symbol} {ks : List Class} {steps : List Step} → Derives ss ks steps → values_left steps ≡ length ss
values_left-derives nothing = refl
values_left-derives (token a d) = omega (arith, values_left-derives d)
values_left-derives (rule {ss = ss} p d) = omega (arith, values_left-derives d, length-append (body p) ss)

pub IsEnough-derives : {ss : List Symbol} {ks : List Class} {steps : List Step} → Derives ss ks steps → IsEnough steps
IsEnough-derives nothing = tt
IsEnough-derives (token a d) = IsEnough-derives d
IsEnough-derives (rule {ss = ss} p d) = (omega (arith, values_left-derives d, length-append (body p) ss), IsEnough-derives d)

pub takes_of-append : (a b : List Step) → takes_of (a ++ b) ≡ takes_of a + takes_of b
takes_of-append [] b = omega arith
takes_of-append (Take ∷ a) b = omega (arith, takes_of-append a b)
takes_of-append (Expand p ∷ a) b = takes_of-append a b

pub IsEnough-drop : (i : ℕ) (steps : List Step) → IsEnough steps → IsEnough (drop i steps)
IsEnough-drop zero steps h = h
IsEnough-drop (suc i) [] h = h
IsEnough-drop (suc i) (Take ∷ steps) h = IsEnough-drop i steps h
IsEnough-drop (suc i) (Expand p ∷ steps) h = IsEnough-drop i steps h.1
