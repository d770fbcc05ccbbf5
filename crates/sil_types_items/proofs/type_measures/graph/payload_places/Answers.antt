use Rattle.std.proofs.Common.{sym, ap, ◌∙◌, ◌++◌}
use Rattle.std.specs.List.{flat_map}
use Rattle.sil_types_declarations.specs.TypeDefinitions.Contained.{payload_types}
use Rattle.sil_types_declarations.specs.TypeDefinitions.Declarations.{all_names}
use Rattle.sil_types_items.specs.TypeMeasures.inner.Places.{places_in}
use Rattle.sil_types_items.proofs.TypeMeasures.Placing.{places_next}
use Rattle.sil_types_items.proofs.type_measures.graph.payload_places.Goals as goal

pub loop-case-preserved : goal.loop-case-preserved
loop-case-preserved c =
    c.in_ok-add_payload.ensures
    ∙ ap (λ ps. ps ++ flat_map (places_in (all_names c.args.table.now)) (payload_types c.case-item.result)) c.loop-case.invariant
    ∙ sym (places_next payload_types (all_names c.args.table.now) c.args.cases.now c.loop-case.case-index c.case-item.result c.loop-case-test.true c.case-item.is)
