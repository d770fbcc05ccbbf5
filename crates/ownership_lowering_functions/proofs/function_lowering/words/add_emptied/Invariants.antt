use Rattle.std.proofs.Common.{◌≡◌, ◌++◌, take}
use Rattle.std.specs.List.{flat_map}
use Rattle.ownership_lowering_model.specs.LoweredInsts.{releases_at}
use Rattle.ownership_lowering_functions.specs.FunctionLowering.inner.Drafts.{told_insts}
use Rattle.ownership_lowering_functions.proofs.function_lowering.words.add_emptied.Given as goal

abbrev pub invariant-loop-place : goal.invariant-loop-place
invariant-loop-place l = told_insts l.drafts ≡ told_insts l.initial.drafts ++ flat_map (releases_at l.table l.spare) (take l.place-index l.places)
