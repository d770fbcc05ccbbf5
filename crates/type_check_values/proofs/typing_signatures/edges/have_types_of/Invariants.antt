use Rattle.std.proofs.Common.{◌≡◌, drop, map}
use Rattle.sil_types.specs.Typing.RowTypes.{all_written}
use Rattle.sil_types.specs.Typing.Same.{are_same_types}
use Rattle.sil_types.specs.Typing.Values.{arg_type}
use Rattle.type_check_values.proofs.typing_signatures.edges.have_types_of.Given as goal

abbrev pub invariant-loop-operand : goal.invariant-loop-operand
invariant-loop-operand l = are_same_types (all_written (drop l.operand-index l.operands)) (map arg_type l.rest) ≡ are_same_types (all_written l.operands) (map arg_type l.args)
