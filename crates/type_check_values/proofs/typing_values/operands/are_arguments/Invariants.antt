use Rattle.std.proofs.Common.{◌≡◌, drop, map}
use Rattle.argument_conventions.specs.Arguments.{argument_type}
use Rattle.argument_conventions.specs.inner.Remaining.{remaining_told}
use Rattle.sil_types.specs.Typing.OperandTypes.{argument_types, has_type}
use Rattle.sil_types.specs.Typing.Same.{all_pairs}
use Rattle.type_check_values.specs.TypingValues.inner.Told.{types_told}
use Rattle.type_check_values.proofs.typing_values.operands.are_arguments.Given as goal

abbrev pub invariant-loop-operand : goal.invariant-loop-operand
invariant-loop-operand l =
    all_pairs (has_type (types_told l.types)) l.operands (argument_types l.signature)
    ≡ all_pairs (has_type (types_told l.types)) (drop l.operand-index l.operands) (map argument_type (remaining_told l.rest))
