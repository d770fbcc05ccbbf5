use Rattle.std.proofs.Common.{◌≡◌, drop}
use Rattle.sil_types.specs.Typing.RowTypes.{all_written}
use Rattle.sil_types.specs.Typing.Same.{are_same_types}
use Rattle.type_check_rows.proofs.same_view.are_written.Given as goal

abbrev pub invariant-loop-part : goal.invariant-loop-part
invariant-loop-part l = are_same_types l.parts (all_written l.operands) ≡ are_same_types (drop l.part-index l.parts) (all_written l.rest)
