use Rattle.std.proofs.Common.{◌∙◌, ap, get_or}
use Rattle.std.proofs.Math.ListN.{set}
use Rattle.std.proofs.lemmas.List.Edits.{map_over_more}
use Rattle.sil_ast.specs.declared.operands.Operand.{Operand}
use Rattle.ownership_lowering_model.specs.Numbers.{renumbered_operand}
use Rattle.ownership_lowering_functions.specs.ValueRenumbering.inner.NewNumbers.{number_in}
use Rattle.ownership_lowering_functions.proofs.value_renumbering.renumbering.renumber_operands.Goals as goal

pub loop-operand-preserved : goal.loop-operand-preserved
loop-operand-preserved c =
    let k = c.loop-operand.operand-index in
    let operands = c.loop-operand.operands in
    let before : Operand = get_or operands k c.operand-item.result in
    ap (λ v. set operands k record { value = v; ty = before.ty }) c.number-operand.ensures
    ∙ map_over_more (renumbered_operand (number_in c.args.numbers.now)) c.args.operands.now operands k before c.loop-operand-test.true
    c.loop-operand.invariant (ap (get_or operands k) c.operand-item.is)
