use Rattle.std.proofs.Common.{◌≡◌, ◌∙◌, List, ap, map}
use Rattle.sil_ast.specs.declared.function.Block.{Block}
use Rattle.sil_ast.specs.declared.function.BlockArg.{BlockArg}
use Rattle.sil_ast.specs.declared.inst.Inst.{Inst}
use Rattle.ownership_lowering_model.specs.LoweredBlocks.{args_become, insts_become}
use Rattle.ownership_lowering_model.specs.Numbers.{renumbered_arg, renumbered_inst}
use Rattle.ownership_lowering_functions.specs.ValueRenumbering.inner.NewNumbers.{number_in}
use Rattle.ownership_lowering_functions.proofs.function_lowering.blocks.lower_block.Goals as goal

abbrev with_parts : List BlockArg → List Inst → Inst → Block
with_parts args insts last = record { args = args; insts = insts; terminator = last }

same_parts : (a b : List BlockArg) (i j : List Inst) (t u : Inst) → a ≡ b → i ≡ j → t ≡ u → with_parts a i t ≡ with_parts b j u
same_parts a b i j t u args insts last = ap (λ x. with_parts x i t) args ∙ ap (λ x. with_parts b x t) insts ∙ ap (with_parts b j) last

pub returns : goal.returns
returns c =
    let f = number_in c.args.numbers.now in
    let d = c.args.table.now in
    let r = c.args.renamings.now in
    let b = c.args.block.now in
    same_parts c.in_ok-block.field-0 (map (renumbered_arg f) (args_become r b.args))
    c.in_ok-block-2.field-0 (map (renumbered_inst f) (insts_become d r c.args.spare b.insts))
    c.renumber_inst.new.inst (renumbered_inst f b.terminator)
    (c.in_ok-block.ensures ∙ ap (λ xs. map (renumbered_arg f) (args_become r xs)) c.replace-args.ensures.value)
    (c.in_ok-block-2.ensures r ∙ ap (λ xs. map (renumbered_inst f) (insts_become d r c.args.spare xs)) c.replace-insts.ensures.value)
    c.renumber_inst.ensures
