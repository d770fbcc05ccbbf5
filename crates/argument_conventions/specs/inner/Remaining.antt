-- What is told of arguments and results that are still to come.
use Rattle.std.specs.Prelude.{List, [], ◌∷◌, ◌++◌, Option, Some, None, map}
use Rattle.std.specs.List.{flat_map}
use Rattle.sil_ast.specs.declared.signature.Given.{Given}
use Rattle.sil_ast.specs.declared.signature.Param.{Param}
use Rattle.argument_conventions.specs.Arguments.{Told, as_told, direct_results, out_argument, out_place, param_argument}
use Rattle.argument_conventions.specs.declared.remaining.NextArgument.{NextArgument}
use Rattle.argument_conventions.specs.declared.remaining.NextResult.{NextResult}
use Rattle.argument_conventions.specs.declared.remaining.RemainingArguments.{RemainingArguments}

abbrev pub next_direct_told : Option NextResult → List Given
next_direct_told None = []
next_direct_told (Some next) = next.given.now ∷ direct_results next.rest.now

abbrev pub next_out_told : Option NextResult → List Told
next_out_told None = []
next_out_told (Some next) = out_place next.given.now ∷ flat_map out_argument next.rest.now

abbrev pub params_told : List Param → List Told
params_told params = map param_argument params

-- the arguments that are still to come
abbrev pub remaining_told : RemainingArguments → List Told
remaining_told r = flat_map out_argument r.results.now ++ params_told r.params.now

abbrev pub next_told : Option NextArgument → List Told
next_told None = []
next_told (Some next) = as_told next.argument ∷ remaining_told next.rest
