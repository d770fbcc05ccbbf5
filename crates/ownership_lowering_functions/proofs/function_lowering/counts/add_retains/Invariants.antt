use Rattle.std.proofs.Common.{◌≡◌, ◌++◌, map, take}
use Rattle.ownership_lowering_model.specs.NewInsts.{retain}
use Rattle.ownership_lowering_functions.specs.FunctionLowering.inner.Drafts.{told_insts}
use Rattle.ownership_lowering_functions.proofs.function_lowering.counts.add_retains.Given as goal

abbrev pub invariant-loop-operand : goal.invariant-loop-operand
invariant-loop-operand l = told_insts l.drafts ≡ told_insts l.initial.drafts ++ map (retain l.table) (take l.operand-index l.operands)
