-- The shortest way to write what is on a stack. What a module is doesn't rest on it, but why a text is refused does.
use Rattle.std.specs.Prelude.{List, [], ◌∷◌, ◌++◌}
use Rattle.sil_grammar_tables.specs.declared.grammar.Symbol.{Symbol}
use Rattle.sil_grammar_tables.specs.declared.grammar.Symbol.TheVariants.{Read, Part}
use Rattle.sil_grammar_shape.specs.declared.steps.Step.{Step}
use Rattle.sil_grammar_shape.specs.declared.steps.Step.TheVariants.{Take, Expand}
use Rattle.sil_grammar_tables.specs.Grammar.{body}
use Rattle.sil_grammar_tables.specs.Shortest.{shortest}

-- the step that a symbol's shortest text begins with
abbrev pub shortest_step : Symbol → Step
shortest_step (Read t) = Take
shortest_step (Part part) = Expand (shortest part)

-- what stands in its place after that step
abbrev pub after_step : Symbol → List Symbol
after_step (Read t) = []
after_step (Part part) = body (shortest part)

-- the steps of the shortest way to write what is on a stack
pub data Shortens : List Symbol → List Step → Type 0 where
  written : Shortens [] []
  step : {ss : List Symbol} {steps : List Step} → (s : Symbol) → Shortens (after_step s ++ ss) steps → Shortens (s ∷ ss) (shortest_step s ∷ steps)
