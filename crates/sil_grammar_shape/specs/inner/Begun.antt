-- Derivations of modules that begin with given classes.
use Rattle.std.specs.Prelude.{List, ◌++◌}
use Rattle.sil_grammar_classes.specs.declared.classes.Class.{Class}
use Rattle.sil_grammar_tables.specs.declared.grammar.Symbol.{Symbol}
use Rattle.sil_grammar_shape.specs.declared.steps.Step.{Step}
use Rattle.sil_grammar_shape.specs.Derivation.{Derives, start}

-- the steps lead over these classes to what is left to be written: they go on with whatever that derives
abbrev pub LeadsTo : List Class → List Step → List Symbol → Type 0
LeadsTo classes steps left = (more : List Class) (rest : List Step) → Derives left more rest → Derives start (classes ++ more) (steps ++ rest)
