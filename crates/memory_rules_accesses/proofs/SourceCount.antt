-- There are as many sources as values.
use Rattle.std.proofs.Common.{◌≡◌, ℕ, zero, suc, List, length}
use Rattle.std.specs.Prelude.{slice_get}
use Rattle.std.proofs.lemmas.List.{length-replicate}
use Rattle.std.proofs.lemmas.List.FromFn.{length-map-range_with_len}
use Rattle.sil_ast.specs.declared.function.BlockArg.{BlockArg}
use Rattle.sil_ast.specs.declared.function.Function.{Function}
use Rattle.sil_ast.specs.declared.signature.Signature.{Signature}
use Rattle.argument_conventions.specs.Arguments.{arguments_of}
use Rattle.numbered_form.specs.Numbering.{values_of}
use Rattle.sil_types.specs.sil_types_declarations.TypeDefinitions.Declarations.{Declarations}
use Rattle.numbered_form.proofs.ValueTables.Rows.{rows_count}
use Rattle.memory_rules_accesses.specs.declared.source.Source.TheVariants.{Other}
use Rattle.memory_rules_accesses.specs.Sources.{arg_sources, argument_source_or, result_source, result_sources, sources_of}

args_count : (d : Declarations) (s : Signature) (n : ℕ) (args : List BlockArg) → length (arg_sources d s n args) ≡ length args
args_count d s zero args = length-map-range_with_len (λ k. argument_source_or d (slice_get (arguments_of s) k)) 0 (length args)
args_count d s (suc n) args = length-replicate (length args) Other

pub sources_count : (d : Declarations) (f : Function) → length (sources_of d f) ≡ length (values_of f.blocks)
sources_count d f =
    rows_count (arg_sources d f.signature) (result_sources d) (args_count d f.signature) (λ i. length-replicate (length i.results) (result_source d i)) 0 f.blocks
