use Rattle.std.proofs.Common.{◌≡◌, take, map}
use Rattle.sil_types_declarations.specs.TypeDefinitions.Contained.{field_type}
use Rattle.sil_types_declarations.specs.TypeDefinitions.Declarations.{all_names}
use Rattle.sil_types_declarations.specs.TypeDefinitions.Measures.{measure_at, measure_with}
use Rattle.sil_types_items.specs.TypeMeasures.inner.Gathered.{gathered}
use Rattle.sil_types_items.proofs.type_measures.measure.gather_fields.Given as goal

abbrev pub invariant-loop-field : goal.invariant-loop-field
invariant-loop-field l = l.all ≡ gathered (map (measure_with (measure_at (all_names l.table) l.known)) (map field_type (take l.field-index l.fields)))
