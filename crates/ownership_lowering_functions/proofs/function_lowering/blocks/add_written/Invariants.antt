use Rattle.std.proofs.Common.{◌≡◌, ◌++◌, map, take}
use Rattle.ownership_lowering_model.specs.Numbers.{renumbered_inst}
use Rattle.ownership_lowering_functions.specs.ValueRenumbering.inner.NewNumbers.{number_in}
use Rattle.ownership_lowering_functions.specs.FunctionLowering.inner.Drafts.{told_insts}
use Rattle.ownership_lowering_functions.proofs.function_lowering.blocks.add_written.Given as goal

abbrev pub invariant-loop-draft : goal.invariant-loop-draft
invariant-loop-draft l = l.lowered ≡ l.initial.lowered ++ map (renumbered_inst (number_in l.numbers)) (told_insts (take l.draft-index l.drafts))
