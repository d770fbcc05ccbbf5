use Rattle.std.proofs.Common.{◌≡◌, ◌++◌, take}
use Rattle.std.specs.List.{flat_map}
use Rattle.ownership_lowering_model.specs.Extracts.{extracts_fields}
use Rattle.ownership_lowering_functions.specs.FunctionLowering.inner.Drafts.{told_insts}
use Rattle.ownership_lowering_functions.proofs.function_lowering.extracts.add_field_extracts.Given as goal

abbrev pub invariant-loop-whole : goal.invariant-loop-whole
invariant-loop-whole l = told_insts l.drafts ≡ told_insts l.initial.drafts ++ flat_map (extracts_fields l.table l.values) (take l.whole-index l.operands)
