use Rattle.std.proofs.Common.{◌+◌, ◌++◌, ◌∙◌, ap, arith, refl}
use Rattle.ownership_lowering_model.specs.LoweredBlocks.{insts_become, value_with}
use Rattle.ownership_lowering_model.specs.LoweredInsts.{becomes}
use Rattle.ownership_lowering_functions.specs.FunctionLowering.inner.Drafts.{told_insts}
use Rattle.ownership_lowering_functions.proofs.FunctionLowering.Steps.{drop_done, drop_next}
use Rattle.ownership_lowering_functions.proofs.function_lowering.drafting.draft_insts.Goals as goal

pub loop-inst-preserved : goal.loop-inst-preserved
loop-inst-preserved c = record {
  next = (let before = c.loop-inst.invariant.next in omega arith);
  drafted = λ renamings.
      let d = c.args.table.now in
      let spare = c.loop-inst.spare in
      drop_next (insts_become d renamings spare) (insts_become d renamings (spare + 1)) (becomes d (value_with spare) c.inst-item.result) c.args.insts.now c.loop-inst.inst-index c.inst-item.result
      (told_insts c.loop-inst.drafts) (told_insts c.add_inst.new.drafts) (insts_become d renamings c.args.spare c.args.insts.now) c.loop-inst-test.true c.inst-item.is (λ ys. refl)
      (c.loop-inst.invariant.drafted renamings)
      (c.in_ok-add_inst.ensures ∙ ap (λ i. told_insts c.loop-inst.drafts ++ becomes d (value_with spare) i) c.get.ensures);
}

pub returns : goal.returns
returns c renamings =
    let d = c.args.table.now in
    drop_done (insts_become d renamings c.loop-inst.spare) c.args.insts.now c.loop-inst.inst-index (told_insts c.loop-inst.drafts) (insts_become d renamings c.args.spare c.args.insts.now)
    c.loop-inst-test.false refl (c.loop-inst.invariant.drafted renamings)
