use Rattle.std.proofs.Common.{◌≡◌, ◌++◌, map, take}
use Rattle.numbered_form.specs.Numbering.{value_of}
use Rattle.ownership_lowering_model.specs.LoweredBlocks.{args_become}
use Rattle.ownership_lowering_functions.proofs.function_lowering.defined.add_args.Given as goal

abbrev pub invariant-loop-arg : goal.invariant-loop-arg
invariant-loop-arg l = l.values ≡ l.initial.values ++ map value_of (args_become l.renamings (take l.arg-index l.args))
