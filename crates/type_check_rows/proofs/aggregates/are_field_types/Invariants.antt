use Rattle.std.proofs.Common.{◌≡◌, drop, map}
use Rattle.sil_types.specs.Typing.RowTypes.{all_written}
use Rattle.sil_types.specs.Typing.Same.{are_same_types}
use Rattle.sil_types.specs.Typing.Shapes.{field_type}
use Rattle.type_check_rows.proofs.aggregates.are_field_types.Given as goal

abbrev pub invariant-loop-field : goal.invariant-loop-field
invariant-loop-field l = are_same_types (all_written l.operands) (map field_type l.fields) ≡ are_same_types (all_written l.rest) (map field_type (drop l.field-index l.fields))
