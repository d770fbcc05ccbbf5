use Rattle.std.proofs.Common.{◌≡◌, take, map}
use Rattle.std.specs.List.{flat_map}
use Rattle.sil_types_declarations.specs.TypeDefinitions.Contained.{payload_types}
use Rattle.sil_types_declarations.specs.TypeDefinitions.Declarations.{all_names}
use Rattle.sil_types_declarations.specs.TypeDefinitions.Measures.{measure_at, measure_with}
use Rattle.sil_types_items.specs.TypeMeasures.inner.Gathered.{gathered}
use Rattle.sil_types_items.proofs.type_measures.measure.gather_payloads.Given as goal

abbrev pub invariant-loop-case : goal.invariant-loop-case
invariant-loop-case l = l.all ≡ gathered (map (measure_with (measure_at (all_names l.table) l.known)) (flat_map payload_types (take l.case-index l.cases)))
