use Rattle.std.proofs.Common.{◌<◌, ◌∙◌, ap, get_or, subst, sym}
use Rattle.std.proofs.Math.ListN.{set}
use Rattle.std.proofs.lemmas.List.{get_or_default}
use Rattle.std.proofs.lemmas.List.Edits.{map_over_more}
use Rattle.sil_ast.specs.declared.place.ValueId.{ValueId}
use Rattle.ownership_lowering_functions.specs.ValueRenumbering.inner.NewNumbers.{number_in}
use Rattle.ownership_lowering_functions.proofs.value_renumbering.renumbering.renumber_values.Goals as goal

pub loop-value-preserved : goal.loop-value-preserved
loop-value-preserved c =
    let k = c.loop-value.value-index in
    let before : ValueId = get_or c.loop-value.values k record { 0 = 0 } in
    ap (set c.loop-value.values k) c.number.ensures
    ∙ map_over_more (number_in c.args.numbers.now) c.args.values.now c.loop-value.values k before c.loop-value-test.true c.loop-value.invariant
    (get_or_default c.loop-value.values k record { 0 = 0 } before (subst (λ n. k < n) (sym c.loop-value.auto.values) c.loop-value-test.true))
