use Rattle.std.proofs.Common.{◌≡◌, ◌++◌, map, take}
use Rattle.ownership_lowering_model.specs.NewInsts.{loaded_from, retain}
use Rattle.ownership_lowering_functions.specs.FunctionLowering.inner.Drafts.{told_insts}
use Rattle.ownership_lowering_functions.proofs.function_lowering.counts.add_retains_loaded.Given as goal

abbrev pub invariant-loop-value : goal.invariant-loop-value
invariant-loop-value l =
    told_insts l.drafts ≡ told_insts l.initial.drafts ++ map (λ v. retain l.table (loaded_from l.place v)) (take l.value-index l.values)
