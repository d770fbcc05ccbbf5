use Rattle.std.proofs.Common.{◌≡◌, ◌++◌, ◌∙◌, List, OnOk, ap, arith, length, map, subst}
use Rattle.std.specs.List.{flat_map}
use Rattle.sil_ast.specs.declared.place.ValueId.{ValueId}
use Rattle.numbered_form.specs.Numbering.{value_of}
use Rattle.ownership_lowering_model.specs.LoweredBlocks.{args_become, insts_become}
use Rattle.ownership_lowering_functions.specs.FunctionLowering.inner.Drafts.{results_told}
use Rattle.ownership_lowering_functions.proofs.FunctionLowering.Told.{block_values}
use Rattle.ownership_lowering_functions.proofs.function_lowering.defined.add_block.Goals as goal

pub draft_insts-requires : goal.draft_insts-requires
draft_insts-requires c =
    let long : length c.as_slice-2.result.now ≡ length c.args.block.now.insts = ap length c.as_slice-2.ensures in
    let room = c.requires in
    omega arith

pub returns : goal.returns
returns c =
    let d = c.args.table.now in
    let r = c.args.renamings.now in
    let b = c.args.block.now in
    subst (λ (xs : List ValueId). OnOk c.add_values.result (c.add_values.new.values ≡ xs))
    (ap (λ xs. c.add_all_results.new.values ++ xs) c.as_slice-4.ensures
    ∙ block_values d r c.args.spare b c.in_ok-drafts.drafts c.args.values.now c.add_args.new.values c.add_all_results.new.values
    (c.in_ok-drafts.ensures r ∙ ap (insts_become d r c.args.spare) c.as_slice-2.ensures)
    (c.in_ok-add_args.ensures ∙ ap (λ xs. c.args.values.now ++ map value_of (args_become r xs)) c.as_slice.ensures)
    (c.in_ok-add_all_results.ensures ∙ ap (λ ds. c.add_args.new.values ++ flat_map results_told ds) c.as_slice-3.ensures))
    c.add_values.ensures
