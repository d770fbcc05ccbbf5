-- The types of a function's values, and the functions that they stand for.
use Rattle.std.specs.Prelude.{ℕ, List, [], ◌∷◌, Option, Some, None, map, length, slice_get, replicate, unwrap_or}
use Rattle.std.specs.List.{range_with_len}
use Rattle.sil_ast.specs.declared.function.BlockArg.{BlockArg}
use Rattle.sil_ast.specs.declared.function.Function.{Function}
use Rattle.sil_ast.specs.declared.inst.Inst.{Inst}
use Rattle.sil_ast.specs.declared.operands.Operand.{Operand}
use Rattle.sil_ast.specs.declared.place.FuncId.{FuncId}
use Rattle.sil_ast.specs.declared.place.ValueId.{ValueId}
use Rattle.sil_ast.specs.declared.type_name.TypeName.{TypeName}
use Rattle.sil_types_declarations.specs.numbered_form.ValueTables.ValueRows.{value_rows}
use Rattle.sil_types_declarations.specs.TypeDefinitions.Declarations.{Declarations}
use Rattle.sil_types.specs.Typing.RowTypes.{made_types}

-- the types of an instruction's results, in order; one that its row doesn't give has none
abbrev pub result_types : Declarations → Inst → List (Option TypeName)
result_types d i = map (slice_get (made_types d i)) (range_with_len 0 (length i.results))

abbrev pub arg_type : BlockArg → TypeName
arg_type a = a.ty

abbrev pub arg_has : BlockArg → Option TypeName
arg_has a = Some a.ty

abbrev pub arg_types : ℕ → List BlockArg → List (Option TypeName)
arg_types n args = map arg_has args

-- the types of a function's values, by their numbers
abbrev pub value_types : Declarations → Function → List (Option TypeName)
value_types d f = value_rows arg_types (result_types d) f

-- the type of the value with this number
abbrev pub type_at : List (Option TypeName) → ℕ → Option TypeName
type_at types v = unwrap_or (slice_get types v) None

-- the type of an operand's value
abbrev pub type_of_value : List (Option TypeName) → Operand → Option TypeName
type_of_value types o = type_at types o.value.0

-- of an instruction's names the first is a result of a `function_ref`; a further one is a name too many
abbrev pub functions_by : Option FuncId → List ValueId → List (Option FuncId)
functions_by function [] = []
functions_by function (result ∷ others) = function ∷ replicate (length others) None

-- the result of a `function_ref` stands for the function that it names, and no other value stands for one
abbrev pub result_functions : Inst → List (Option FuncId)
result_functions i = functions_by i.function i.results

abbrev pub arg_functions : ℕ → List BlockArg → List (Option FuncId)
arg_functions n args = replicate (length args) None

-- the functions that a function's values stand for, by the values' numbers
abbrev pub value_functions : Function → List (Option FuncId)
value_functions f = value_rows arg_functions result_functions f

-- the function that the value with this number stands for
abbrev pub function_at : List (Option FuncId) → ℕ → Option FuncId
function_at functions v = unwrap_or (slice_get functions v) None
