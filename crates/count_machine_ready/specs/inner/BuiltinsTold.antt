-- What the code's operations at widths are in the definitions of builtins.
use Rattle.std.specs.Prelude.{ℕ, List, Bool, false, Option, Some, None, bytes_eq}
use Rattle.instruction_table.specs.BuiltinNames.BuiltinNames.{width_spelling}
use Rattle.instruction_table.specs.declared.builtin_names.names.Width.{Width}
use Rattle.sil_types.specs.Typing.Builtins.{Builtin, at_width}
use Rattle.count_machine_ready.specs.declared.builtins.BuiltinAt.{BuiltinAt}

abbrev pub builtin_told : BuiltinAt → Builtin
builtin_told b = at_width b.operation b.width

-- the text is the width's, where there is one
abbrev pub is_width_text : Option (List ℕ) → Width → Bool
is_width_text None width = false
is_width_text (Some text) width = bytes_eq text (width_spelling width)

abbrev pub is_spelled_by : List ℕ → Builtin → Bool
is_spelled_by text b = bytes_eq text (width_spelling b.width)
