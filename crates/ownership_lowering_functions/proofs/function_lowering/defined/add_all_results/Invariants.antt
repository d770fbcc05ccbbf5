use Rattle.std.proofs.Common.{◌≡◌, ◌++◌, take}
use Rattle.std.specs.List.{flat_map}
use Rattle.ownership_lowering_functions.specs.FunctionLowering.inner.Drafts.{results_told}
use Rattle.ownership_lowering_functions.proofs.function_lowering.defined.add_all_results.Given as goal

abbrev pub invariant-loop-draft : goal.invariant-loop-draft
invariant-loop-draft l = l.values ≡ l.initial.values ++ flat_map results_told (take l.draft-index l.drafts)
