-- How many values there are while steps are replayed from the last to the first: a token taken gives one value,
-- and a production takes a value for each symbol of its body and gives one.
use Rattle.std.specs.Prelude.{ℕ, ◌+◌, ◌-◌, ◌≤◌, length, List, [], ◌∷◌}
use Rattle.sil_grammar_shape.specs.declared.steps.Step.{Step}
use Rattle.sil_grammar_shape.specs.declared.steps.Step.TheVariants.{Take, Expand}
use Rattle.sil_grammar_tables.specs.Grammar.{body}

-- how many tokens are taken
abbrev pub takes_of : List Step → ℕ
takes_of [] = 0
takes_of (Take ∷ steps) = takes_of steps + 1
takes_of (Expand p ∷ steps) = takes_of steps

-- the values that are there once all steps are replayed
abbrev pub values_left : List Step → ℕ
values_left [] = 0
values_left (Take ∷ steps) = values_left steps + 1
values_left (Expand p ∷ steps) = values_left steps - length (body p) + 1

-- wherever a production is expanded, the values of its body are there
abbrev pub IsEnough : List Step → Type 0
IsEnough [] = Unit {0}
IsEnough (Take ∷ steps) = IsEnough steps
IsEnough (Expand p ∷ steps) = (length (body p) ≤ values_left steps) × IsEnough steps
