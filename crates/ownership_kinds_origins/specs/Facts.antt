-- The kinds and bases of a function's values.
use Rattle.std.specs.Prelude.{List, Option, None, length, option_map, nat_lt, if◌then◌else◌}
use Rattle.sil_ast.specs.declared.function.Function.{Function}
use Rattle.sil_ast.specs.declared.place.ValueId.{ValueId}
use Rattle.ownership_kinds_chains.specs.OwnershipChains.Steps.{told_in}
use Rattle.ownership_kinds_chains.specs.declared.ownership_chains.definition.Definition.{Definition}
use Rattle.ownership_kinds_chains.specs.declared.ownership_chains.facts.Facts.{Facts}
use Rattle.sil_types.specs.sil_types_declarations.TypeDefinitions.Declarations.{Declarations}
use Rattle.sil_types.specs.sil_types_declarations.declared.type_definitions.kind.Kind.{Kind}
use Rattle.ownership_kinds_origins.specs.Origins.{definitions_of}

-- what as many steps as there are values tell, which are just their facts (`facts_are_told`); a number beyond them tells nothing
abbrev pub facts_by : List Definition → ValueId → Option Facts
facts_by defs v = if nat_lt v.0 (length defs) then told_in defs (length defs) v else None

-- a value's kind and bases, where every chain from it ends
abbrev pub facts_in : Declarations → Function → ValueId → Option Facts
facts_in d f v = facts_by (definitions_of d f) v

abbrev pub kind_of_facts : Facts → Kind
kind_of_facts f = f.kind

abbrev pub kind_in : Declarations → Function → ValueId → Option Kind
kind_in d f v = option_map kind_of_facts (facts_in d f v)
