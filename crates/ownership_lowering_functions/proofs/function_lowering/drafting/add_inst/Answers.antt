use Rattle.std.proofs.Common.{◌++◌, ◌∙◌, ap}
use Rattle.std.proofs.lemmas.Result.{on_ok_weaker}
use Rattle.ownership_lowering_model.specs.LoweredInsts.{becomes_by}
use Rattle.ownership_lowering_functions.specs.FunctionLowering.inner.Drafts.{told_insts}
use Rattle.ownership_lowering_functions.proofs.function_lowering.drafting.add_inst.Goals as goal

pub returns-in-Loads : goal.returns-in-Loads
returns-in-Loads c = on_ok_weaker c.add_load.result (λ made.
    made c.args.spare ∙ ap (λ l. told_insts c.args.drafts.now ++ becomes_by c.args.table.now c.args.spare l c.args.inst.now) c.in-Loads.ensures) c.add_load.ensures
