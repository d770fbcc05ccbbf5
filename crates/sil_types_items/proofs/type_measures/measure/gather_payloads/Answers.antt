use Rattle.std.proofs.Common.{sym, ap, ◌∙◌, map, take}
use Rattle.std.specs.List.{flat_map}
use Rattle.sil_types_declarations.specs.TypeDefinitions.Contained.{payload_types}
use Rattle.sil_types_declarations.specs.TypeDefinitions.Declarations.{all_names}
use Rattle.sil_types_declarations.specs.TypeDefinitions.Measures.{measure_at, measure_with}
use Rattle.sil_types_items.specs.TypeMeasures.inner.Gathered.{gathered}
use Rattle.sil_types_items.proofs.TypeMeasures.Gathering.{gathered_flat}
use Rattle.sil_types_items.proofs.type_measures.measure.gather_payloads.Goals as goal

pub loop-case-preserved : goal.loop-case-preserved
loop-case-preserved c =
    let F = measure_with (measure_at (all_names c.args.table.now) c.args.known.now) in
    c.with_payload-all.ensures (map F (flat_map payload_types (take c.loop-case.case-index c.args.cases.now))) c.loop-case.invariant
    ∙ ap gathered (sym (gathered_flat F payload_types c.args.cases.now c.loop-case.case-index c.case-item.result c.loop-case-test.true c.case-item.is))
