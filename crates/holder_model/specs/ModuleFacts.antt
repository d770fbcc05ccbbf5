-- What a run by holders is told of a module beside its instructions: the shapes of values, and their kinds and bases.
use Rattle.std.specs.Prelude.{List, [], Option, map, slice_get, unwrap_or}
use Rattle.std.specs.List.{range_with_len}
use Rattle.sil_ast.specs.declared.function.Function.{Function}
use Rattle.sil_ast.specs.declared.module.Module.{Module}
use Rattle.sil_ast.specs.declared.place.FuncId.{FuncId}
use Rattle.sil_ast.specs.declared.place.ValueId.{ValueId}
use Rattle.ownership_kinds_origins.specs.ownership_kinds_chains.OwnershipChains.Facts.{told_at, value_of}
use Rattle.ownership_kinds_origins.specs.ownership_kinds_chains.declared.ownership_chains.facts.Facts.{Facts}
use Rattle.ownership_kinds_origins.specs.Facts.{facts_in}
use Rattle.holder_model_values.specs.sil_types_declarations.TypeDefinitions.Declarations.{Declarations, declarations_of}
use Rattle.holder_model.specs.Calling.{value_count}
use Rattle.holder_model.specs.ModuleShapes.{ModuleShapes, shapes_by}

pub record ModuleFacts : Type 0 where
  pub shapes : ModuleShapes
  -- of each function the kinds and bases of its values, by their numbers
  pub facts : List (List (Option Facts))

abbrev pub function_facts : Declarations → Function → List (Option Facts)
function_facts d f = map (λ v. facts_in d f (value_of v)) (range_with_len 0 (value_count f))

abbrev pub facts_by : Declarations → Module → ModuleFacts
facts_by d m = record { shapes = shapes_by d m; facts = map (function_facts d) m.functions }

abbrev pub facts_of : Module → ModuleFacts
facts_of m = facts_by (declarations_of m) m

-- the kind and bases of a function's value
abbrev pub facts_told : ModuleFacts → FuncId → ValueId → Option Facts
facts_told told g v = told_at (unwrap_or (slice_get told.facts g.0) []) v
