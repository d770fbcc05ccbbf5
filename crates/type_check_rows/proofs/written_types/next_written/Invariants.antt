use Rattle.std.proofs.Common.{◌≡◌, drop}
use Rattle.sil_types.specs.Typing.RowTypes.{all_written}
use Rattle.type_check_rows.proofs.written_types.next_written.Given as goal

abbrev pub invariant-loop-i : goal.invariant-loop-i
invariant-loop-i l = all_written l.operands ≡ all_written (drop l.i l.operands)
