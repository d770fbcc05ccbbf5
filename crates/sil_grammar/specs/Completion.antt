-- The shortest list with the shape of a module that begins with given classes.
use Rattle.std.specs.Prelude.{List, [], ◌∷◌, ◌++◌}
use Rattle.sil_grammar_classes.specs.declared.classes.Class.{Class}
use Rattle.sil_grammar_tables.specs.declared.grammar.Symbol.{Symbol}
use Rattle.sil_grammar_tables.specs.declared.grammar.Symbol.TheVariants.{Part}
use Rattle.sil_grammar_tables.specs.declared.grammar.Production.{Production}
use Rattle.sil_grammar_shape.specs.declared.steps.Step.{Step}
use Rattle.sil_grammar_shape.specs.declared.steps.Step.TheVariants.{Take, Expand}
use Rattle.sil_grammar_shape.specs.Derivation.{Accepts, start}
use Rattle.sil_grammar_tables.specs.Grammar.{written, body}
use Rattle.sil_grammar_shape.specs.Shortest.{Shortens}

-- these symbols in a row derive these classes, and behind the last class what is left is written in the shortest way, by these steps
pub data Completes : List Symbol → List Class → List Step → Type 0 where
  -- no class is left
  behind : {ss : List Symbol} {steps : List Step} → Shortens ss steps → Completes ss [] steps
  -- the first class stands for the symbol that stands first
  taken : {s : Symbol} {k : Class} {ss : List Symbol} {ks : List Class} {steps : List Step}
      → Accepts s k → Completes ss ks steps → Completes (s ∷ ss) (k ∷ ks) (Take ∷ steps)
  -- or it stands in what the part that stands first gives way to, or behind it
  expanded : {k : Class} {ss : List Symbol} {ks : List Class} {steps : List Step}
      → (p : Production) → Completes (body p ++ ss) (k ∷ ks) steps → Completes (Part (written p) ∷ ss) (k ∷ ks) (Expand p ∷ steps)

-- the steps derive the shortest module that begins with these classes
abbrev pub IsShortestFrom : List Class → List Step → Type 0
IsShortestFrom = Completes start
