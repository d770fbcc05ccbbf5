use Rattle.std.proofs.Common.{◌≡◌, ◌++◌, map, take, drop}
use Rattle.ownership_lowering_model.specs.Numbers.{renumbered_operand}
use Rattle.ownership_lowering_functions.specs.ValueRenumbering.inner.NewNumbers.{number_in}
use Rattle.ownership_lowering_functions.proofs.value_renumbering.renumbering.renumber_operands.Given as goal

abbrev pub invariant-loop-operand : goal.invariant-loop-operand
invariant-loop-operand l =
    l.operands ≡ map (renumbered_operand (number_in l.numbers)) (take l.operand-index l.initial.operands) ++ drop l.operand-index l.initial.operands
