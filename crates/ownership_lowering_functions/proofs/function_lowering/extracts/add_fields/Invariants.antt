use Rattle.std.proofs.Common.{◌≡◌, ◌++◌, drop, map}
use Rattle.ownership_lowering_model.specs.Extracts.{field_extracts, member_of}
use Rattle.ownership_lowering_functions.specs.FunctionLowering.inner.Drafts.{told_insts}
use Rattle.ownership_lowering_functions.proofs.function_lowering.extracts.add_fields.Given as goal

abbrev pub invariant-loop-index : goal.invariant-loop-index
invariant-loop-index l =
    told_insts l.drafts ++ field_extracts l.whole (map (member_of l.owner) (drop l.index l.fields)) (drop l.index l.values)
    ≡ told_insts l.initial.drafts ++ field_extracts l.whole (map (member_of l.owner) l.fields) l.values
