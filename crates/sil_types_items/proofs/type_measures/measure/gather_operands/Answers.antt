use Rattle.std.proofs.Common.{sym, ap, ◌∙◌, map, take}
use Rattle.std.specs.List.{flat_map}
use Rattle.sil_types_declarations.specs.TypeDefinitions.Declarations.{all_names}
use Rattle.sil_types_declarations.specs.TypeDefinitions.Measures.{measure_at, measure_with}
use Rattle.sil_types_declarations.specs.TypeDefinitions.Mentions.{operand_types}
use Rattle.sil_types_items.specs.TypeMeasures.inner.Gathered.{gathered}
use Rattle.sil_types_items.proofs.TypeMeasures.Gathering.{gathered_flat}
use Rattle.sil_types_items.proofs.type_measures.measure.gather_operands.Goals as goal

pub loop-operand-preserved : goal.loop-operand-preserved
loop-operand-preserved c =
    let F = measure_with (measure_at (all_names c.args.table.now) c.args.known.now) in
    c.with_operand-all.ensures (map F (flat_map operand_types (take c.loop-operand.operand-index c.args.operands.now))) c.loop-operand.invariant
    ∙ ap gathered (sym (gathered_flat F operand_types c.args.operands.now c.loop-operand.operand-index c.operand-item.result c.loop-operand-test.true c.operand-item.is))
