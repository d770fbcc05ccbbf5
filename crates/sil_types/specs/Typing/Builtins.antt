-- The builtin operations: the types of their operands, and of what they give.
use Rattle.std.specs.Prelude.{ℕ, List, [], ◌∷◌, Bool, Option, map, find}
use Rattle.std.specs.List.{flat_map}
use Rattle.std.specs.Str.{bytes_eq}
use Rattle.sil_ast.specs.declared.type_name.TypeName.{TypeName}
use Rattle.sil_ast.specs.declared.type_name.TypeName.TheVariants as type
use Rattle.sil_ast.specs.instruction_table.BuiltinNames.BuiltinNames.{builtin_name, operations, widths}
use Rattle.sil_ast.specs.instruction_table.declared.builtin_names.names.Operation.{Operation}
use Rattle.sil_ast.specs.instruction_table.declared.builtin_names.names.Operation.TheVariants as o
use Rattle.sil_ast.specs.instruction_table.declared.builtin_names.names.Width.{Width}
use Rattle.sil_ast.specs.instruction_table.declared.builtin_names.names.Width.TheVariants as w

abbrev pub bits : Width → ℕ
bits w.Int1 = 1
bits w.Int8 = 8
bits w.Int16 = 16
bits w.Int32 = 32
bits w.Int64 = 64

-- an operation at a width
pub record Builtin : Type 0 where
  pub operation : Operation
  pub width : Width

abbrev pub at_width : Operation → Width → Builtin
at_width operation width = record { operation = operation; width = width }

abbrev pub at_widths : Operation → List Builtin
at_widths operation = map (at_width operation) widths

abbrev pub is_named : List ℕ → Builtin → Bool
is_named name b = bytes_eq name (builtin_name b.operation b.width)

-- the operation, at a width, that a text names
abbrev pub builtin_named : List ℕ → Option Builtin
builtin_named name = find (is_named name) (flat_map at_widths operations)

-- what an operation does with integers: it computes and tells overflow, compares, or combines bits
pub data Sort : Type 0 where
  overflowing : Sort
  comparing : Sort
  combining : Sort

abbrev pub sort_of : Operation → Sort
sort_of o.AddWithOverflow = overflowing
sort_of o.SubWithOverflow = overflowing
sort_of o.MulWithOverflow = overflowing
sort_of o.Equal = comparing
sort_of o.NotEqual = comparing
sort_of o.Less = comparing
sort_of o.LessOrEqual = comparing
sort_of o.Greater = comparing
sort_of o.GreaterOrEqual = comparing
sort_of o.And = combining
sort_of o.Or = combining
sort_of o.Xor = combining

abbrev pub integer : Width → TypeName
integer width = type.Int (bits width)

abbrev pub bit : TypeName
bit = type.Int 1

abbrev pub operands_by : Sort → TypeName → List TypeName
operands_by overflowing i = i ∷ i ∷ bit ∷ []
operands_by comparing i = i ∷ i ∷ []
operands_by combining i = i ∷ i ∷ []

abbrev pub result_by : Sort → TypeName → TypeName
result_by overflowing i = type.Tuple (i ∷ bit ∷ [])
result_by comparing i = bit
result_by combining i = i

-- the types of the operation's operands
abbrev pub builtin_operands : Builtin → List TypeName
builtin_operands b = operands_by (sort_of b.operation) (integer b.width)

-- the type of what the operation gives
abbrev pub builtin_result : Builtin → TypeName
builtin_result b = result_by (sort_of b.operation) (integer b.width)
