use Rattle.sil_types_declarations.specs.TypeDefinitions.Declarations.{all_names}
use Rattle.sil_types_declarations.specs.TypeDefinitions.Measures.{measure_at, measure_with}
use Rattle.sil_types_items.proofs.TypeMeasures.Gathering.{gathered_next}
use Rattle.sil_types_items.proofs.type_measures.measure.+measure.Goals as goal

pub gather_elements-loop-element-preserved : goal.gather_elements-loop-element-preserved
gather_elements-loop-element-preserved t c =
    gathered_next (measure_with (measure_at (all_names c.args.table.now) c.args.known.now)) c.args.elements.now c.loop-element.element-index c.element-item.result c.and-all.result c.loop-element.all
    c.measure_type.result c.loop-element-test.true c.element-item.is c.loop-element.invariant c.measure_type.ensures c.and-all.ensures
