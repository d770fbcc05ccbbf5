use Rattle.std.proofs.Common.{◌≡◌, drop, map}
use Rattle.sil_types_declarations.specs.TypeDefinitions.Mentions.{direct_types}
use Rattle.sil_types_declarations.specs.TypeDefinitions.Declarations.{all_names}
use Rattle.sil_types_declarations.specs.TypeDefinitions.Measures.{measure_at, measure_with}
use Rattle.sil_types_items.specs.TypeMeasures.inner.Gathered.{gathered, with_members}
use Rattle.sil_types_items.proofs.type_measures.measure.gather_results.Given as goal

-- what is gathered so far, with the results that are left, comes to all
abbrev pub invariant-loop-given : goal.invariant-loop-given
invariant-loop-given l =
    let known = measure_with (measure_at (all_names l.table) l.known) in
    with_members l.all (map known (direct_types (drop l.given-index l.results))) ≡ gathered (map known (direct_types l.results))
