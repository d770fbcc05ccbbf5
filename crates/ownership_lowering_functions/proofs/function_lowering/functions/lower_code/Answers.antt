use Rattle.std.proofs.Common.{◌∙◌, List, ap, arith, length, refl}
use Rattle.std.proofs.lemmas.Result.{on_ok_weaker}
use Rattle.sil_ast.proofs.Refilled.{refilled}
use Rattle.sil_ast.specs.declared.function.Block.{Block}
use Rattle.sil_ast.specs.declared.function.Function.{Function}
use Rattle.ownership_lowering_model.specs.LoweredBlocks.{blocks_become}
use Rattle.ownership_lowering_model.specs.Numbers.{renumbered}
use Rattle.ownership_lowering_functions.specs.ValueRenumbering.inner.NewNumbers.{number_in}
use Rattle.ownership_lowering_functions.proofs.FunctionLowering.FewValues.{room_for_spares}
use Rattle.ownership_lowering_functions.proofs.FunctionLowering.Numbering.{own_become, renumbered_so}
use Rattle.ownership_lowering_functions.proofs.function_lowering.functions.lower_code.Goals as goal

abbrev with_blocks : Function → List Block → Function
with_blocks f blocks = record f { blocks = blocks }

pub overflow_cast-renamings : goal.overflow_cast-renamings
overflow_cast-renamings c = omega (arith, room_for_spares c.args.table.now c.args.f.now c.args.renamings.now c.args.f.now.blocks c.requires.lowerable.limits c.requires.renamings refl)

pub lower_blocks-requires : goal.lower_blocks-requires
lower_blocks-requires c =
    room_for_spares c.args.table.now c.args.f.now c.args.renamings.now c.as_mut_slice.result.now c.requires.lowerable.limits c.requires.renamings c.as_mut_slice.ensures.value

pub returns : goal.returns
returns c =
    let d = c.args.table.now in
    let f = c.args.f.now in
    let r = c.args.renamings.now in
    let number = number_in c.in_ok-numbers.numbers in
    on_ok_weaker c.lower_blocks.result (λ made.
    ap (with_blocks f)
    (refilled f.blocks c.lower_blocks.new.blocks (c.lower_blocks.auto.blocks ∙ ap length c.as_mut_slice.ensures.value)
    ∙ made
    ∙ ap (λ bs. renumbered number (blocks_become d r (length r) bs)) c.as_mut_slice.ensures.value
    ∙ renumbered_so d f (blocks_become d r (length r) f.blocks) c.in_ok-numbers.numbers (own_become d f r f.blocks refl c.requires.renamings) c.in_ok-numbers.ensures))
    c.lower_blocks.ensures
