use Rattle.std.proofs.Common.{◌≡◌, drop}
use Rattle.std.specs.List.{list_all}
use Rattle.sil_types.specs.sil_types_declarations.TypeDefinitions.Measures.{is_trivial}
use Rattle.sil_types.specs.sil_types_declarations.TypeDefinitions.Mentions.{direct_types}
use Rattle.ownership_kinds_origins.proofs.trivial.are_trivial_results.Given as goal

abbrev pub invariant-loop-given : goal.invariant-loop-given
invariant-loop-given l = list_all (is_trivial l.table) (direct_types l.results) ≡ list_all (is_trivial l.table) (direct_types (drop l.given-index l.results))
