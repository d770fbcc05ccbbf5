use Rattle.std.proofs.Common.{◌≡◌, drop}
use Rattle.std.specs.List.{list_all}
use Rattle.sil_types.specs.Typing.RowTypes.{all_written}
use Rattle.sil_types.specs.Typing.Shapes.{is_object}
use Rattle.type_check_rows.proofs.written_types.are_objects.Given as goal

abbrev pub invariant-loop-operand : goal.invariant-loop-operand
invariant-loop-operand l = list_all is_object (all_written l.operands) ≡ list_all is_object (all_written (drop l.operand-index l.operands))
