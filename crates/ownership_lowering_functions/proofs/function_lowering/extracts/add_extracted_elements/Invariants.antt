use Rattle.std.proofs.Common.{◌≡◌, ◌++◌, drop}
use Rattle.ownership_lowering_model.specs.Extracts.{element_extracts}
use Rattle.ownership_lowering_functions.specs.FunctionLowering.inner.Drafts.{told_insts}
use Rattle.ownership_lowering_functions.proofs.function_lowering.extracts.add_extracted_elements.Given as goal

abbrev pub invariant-loop-number : goal.invariant-loop-number
invariant-loop-number l =
    told_insts l.drafts ++ element_extracts l.whole l.number (drop l.number l.values) ≡ told_insts l.initial.drafts ++ element_extracts l.whole 0 l.values
