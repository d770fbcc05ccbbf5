use Rattle.std.proofs.Common.{◌≡◌, ◌++◌, map}
use Rattle.std.specs.Vec.Iter.{into_iter_items}
use Rattle.ownership_lowering_model.specs.LoweredBlocks.{args_become}
use Rattle.ownership_lowering_model.specs.Numbers.{renumbered_arg}
use Rattle.ownership_lowering_functions.specs.ValueRenumbering.inner.NewNumbers.{number_in}
use Rattle.ownership_lowering_functions.proofs.function_lowering.blocks.lowered_args.Given as goal

abbrev pub invariant-loop-arg : goal.invariant-loop-arg
invariant-loop-arg l =
    map (renumbered_arg (number_in l.numbers)) (args_become l.renamings l.fn.args)
    ≡ l.lowered ++ map (renumbered_arg (number_in l.numbers)) (args_become l.renamings (into_iter_items l.arg-iterator))
