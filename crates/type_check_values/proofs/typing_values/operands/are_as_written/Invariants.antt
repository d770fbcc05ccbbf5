use Rattle.std.proofs.Common.{◌≡◌, drop}
use Rattle.sil_types.specs.Typing.OperandTypes.{are_as_written}
use Rattle.type_check_values.specs.TypingValues.inner.Told.{types_told}
use Rattle.type_check_values.proofs.typing_values.operands.are_as_written.Given as goal

abbrev pub invariant-loop-operand : goal.invariant-loop-operand
invariant-loop-operand l = are_as_written (types_told l.types) l.operands ≡ are_as_written (types_told l.types) (drop l.operand-index l.operands)
