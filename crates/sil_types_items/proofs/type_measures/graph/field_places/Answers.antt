use Rattle.sil_types_declarations.specs.TypeDefinitions.Contained.{field_type}
use Rattle.sil_types_declarations.specs.TypeDefinitions.Declarations.{all_names}
use Rattle.sil_types_items.proofs.TypeMeasures.Placing.{places_next_by}
use Rattle.sil_types_items.proofs.type_measures.graph.field_places.Goals as goal

pub loop-field-preserved : goal.loop-field-preserved
loop-field-preserved c =
    places_next_by field_type (all_names c.args.table.now) c.args.fields.now c.loop-field.field-index c.field-item.result c.add_places.new.places c.loop-field.places c.loop-field-test.true
    c.field-item.is c.loop-field.invariant c.in_ok-add_places.ensures
