use Rattle.sil_types_declarations.specs.TypeDefinitions.Declarations.{all_names}
use Rattle.sil_types_declarations.specs.TypeDefinitions.Measures.{measure_at, measure_with}
use Rattle.sil_types_declarations.specs.TypeDefinitions.Contained.{field_type}
use Rattle.sil_types_items.proofs.TypeMeasures.Gathering.{gathered_next_of}
use Rattle.sil_types_items.proofs.type_measures.measure.gather_fields.Goals as goal

pub loop-field-preserved : goal.loop-field-preserved
loop-field-preserved c =
    gathered_next_of (measure_with (measure_at (all_names c.args.table.now) c.args.known.now)) field_type c.args.fields.now c.loop-field.field-index c.field-item.result c.and-all.result
    c.loop-field.all c.measure_type.result c.loop-field-test.true c.field-item.is c.loop-field.invariant c.measure_type.ensures c.and-all.ensures
