-- What the code's operations at widths are in the definitions of builtins.
use Rattle.std.specs.Prelude.{ℕ, List, Bool, false, Option, Some, None, bytes_eq}
use Rattle.sil_ast.specs.declared.operands.Operand.{Operand}
use Rattle.sil_ast.specs.declared.type_name.TypeName.{TypeName}
use Rattle.instruction_table.specs.BuiltinNames.BuiltinNames.{width_spelling}
use Rattle.instruction_table.specs.declared.builtin_names.names.Width.{Width}
use Rattle.sil_types.specs.Typing.Builtins as builtins
use Rattle.sil_types.specs.Typing.Builtins.{Builtin, at_width}
use Rattle.sil_types.specs.Typing.RowTypes.{all_written}
use Rattle.sil_types.specs.Typing.Same.{are_same_types}
use Rattle.type_check_rows.specs.declared.builtins.BuiltinAt.{BuiltinAt}
use Rattle.type_check_rows.specs.declared.builtins.Sort.{Sort}
use Rattle.type_check_rows.specs.declared.builtins.Sort.TheVariants.{Overflowing, Comparing, Combining}

abbrev pub builtin_told : BuiltinAt → Builtin
builtin_told b = at_width b.operation b.width

abbrev pub sort_told : Sort → builtins.Sort
sort_told Overflowing = builtins.overflowing
sort_told Comparing = builtins.comparing
sort_told Combining = builtins.combining

-- these types are written at the operands that are left, where there are such
abbrev pub are_behind : List TypeName → Option (List Operand) → Bool
are_behind types None = false
are_behind types (Some operands) = are_same_types (all_written operands) types

-- the text is the width's, where there is one
abbrev pub is_width_text : Option (List ℕ) → Width → Bool
is_width_text None width = false
is_width_text (Some text) width = bytes_eq text (width_spelling width)

abbrev pub is_spelled_by : List ℕ → Builtin → Bool
is_spelled_by text b = bytes_eq text (width_spelling b.width)
