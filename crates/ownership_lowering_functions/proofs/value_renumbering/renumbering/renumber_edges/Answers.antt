use Rattle.std.proofs.Common.{◌∙◌, ap, get_or, length, map}
use Rattle.std.proofs.Math.ListN.{set}
use Rattle.std.proofs.lemmas.List.{length-map}
use Rattle.std.proofs.lemmas.List.Edits.{map_over_more}
use Rattle.std.specs.List.{refill}
use Rattle.sil_ast.proofs.Refilled.{refilled}
use Rattle.sil_ast.specs.declared.inst.Edge.{Edge}
use Rattle.ownership_lowering_model.specs.Numbers.{renumbered_edge, renumbered_operand}
use Rattle.ownership_lowering_functions.specs.ValueRenumbering.inner.NewNumbers.{number_in}
use Rattle.ownership_lowering_functions.proofs.value_renumbering.renumbering.renumber_edges.Goals as goal

pub loop-edge-preserved : goal.loop-edge-preserved
loop-edge-preserved c =
    let k = c.loop-edge.edge-index in
    let edges = c.loop-edge.edges in
    let number = number_in c.args.numbers.now in
    let before : Edge = get_or edges k c.edge-item.result in
    ap (λ args. set edges k record { block = before.block; args = args; case_of = before.case_of })
    (ap (refill (length before.args) before.args) (c.renumber_operands.ensures ∙ ap (map (renumbered_operand number)) c.as_mut_slice.ensures.value)
    ∙ refilled before.args (map (renumbered_operand number) before.args) (length-map before.args (renumbered_operand number)))
    ∙ map_over_more (renumbered_edge number) c.args.edges.now edges k before c.loop-edge-test.true c.loop-edge.invariant
    (ap (get_or edges k) c.edge-item.is)
