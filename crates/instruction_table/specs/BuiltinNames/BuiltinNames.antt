-- The names of builtin operations: an operation, then `_Int`, then a width.
use Rattle.std.specs.Prelude.{ℕ, Bool, List, [], ◌∷◌, ◌++◌, codes, bytes_eq}
use Rattle.std.specs.List.{list_any}
use Rattle.instruction_table.specs.declared.builtin_names.names.Operation.{Operation}
use Rattle.instruction_table.specs.declared.builtin_names.names.Operation.TheVariants as o
use Rattle.instruction_table.specs.declared.builtin_names.names.Width.{Width}
use Rattle.instruction_table.specs.declared.builtin_names.names.Width.TheVariants as w

unfoldable pub operation_spelling : Operation → List ℕ
operation_spelling o.AddWithOverflow = codes "sadd_with_overflow"
operation_spelling o.SubWithOverflow = codes "ssub_with_overflow"
operation_spelling o.MulWithOverflow = codes "smul_with_overflow"
operation_spelling o.Equal = codes "cmp_eq"
operation_spelling o.NotEqual = codes "cmp_ne"
operation_spelling o.Less = codes "cmp_slt"
operation_spelling o.LessOrEqual = codes "cmp_sle"
operation_spelling o.Greater = codes "cmp_sgt"
operation_spelling o.GreaterOrEqual = codes "cmp_sge"
operation_spelling o.And = codes "and"
operation_spelling o.Or = codes "or"
operation_spelling o.Xor = codes "xor"

unfoldable pub width_spelling : Width → List ℕ
width_spelling w.Int1 = codes "1"
width_spelling w.Int8 = codes "8"
width_spelling w.Int16 = codes "16"
width_spelling w.Int32 = codes "32"
width_spelling w.Int64 = codes "64"

abbrev pub operations : List Operation
operations = o.AddWithOverflow ∷ o.SubWithOverflow ∷ o.MulWithOverflow ∷ o.Equal ∷ o.NotEqual ∷ o.Less ∷ o.LessOrEqual ∷ o.Greater ∷ o.GreaterOrEqual
    ∷ o.And ∷ o.Or ∷ o.Xor ∷ []

abbrev pub widths : List Width
widths = w.Int1 ∷ w.Int8 ∷ w.Int16 ∷ w.Int32 ∷ w.Int64 ∷ []

-- how the operation is named at the width
abbrev pub builtin_name : Operation → Width → List ℕ
builtin_name operation width = operation_spelling operation ++ (codes "_Int" ++ width_spelling width)

-- whether a text names the operation at some width
unfoldable pub names_operation : List ℕ → Operation → Bool
names_operation name operation = list_any (λ width. bytes_eq name (builtin_name operation width)) widths

-- whether a text names a builtin operation
unfoldable pub is_builtin_name : List ℕ → Bool
is_builtin_name name = list_any (λ operation. names_operation name operation) operations
