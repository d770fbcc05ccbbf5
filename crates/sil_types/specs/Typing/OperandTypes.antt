-- 201: what is asked of operands.
use Rattle.std.specs.Prelude.{List, [], ◌∷◌, Bool, true, not, ◌&&◌, Option, Some, None, map, take, drop, option_and_then}
use Rattle.std.specs.List.{flat_map, list_all}
use Rattle.std.specs.Option.{option_to_list}
use Rattle.sil_ast.specs.instruction_table.Forms.{bare_operands_of}
use Rattle.sil_ast.specs.instruction_table.declared.entries.BareOperands.{BareOperands}
use Rattle.sil_ast.specs.instruction_table.declared.entries.BareOperands.TheVariants.{NoBare, StoredValue, WeakValue, UnownedValue, Condition, Arguments}
use Rattle.sil_ast.specs.declared.inst.Edge.{Edge}
use Rattle.sil_ast.specs.declared.inst.Inst.{Inst}
use Rattle.sil_ast.specs.declared.operands.Operand.{Operand}
use Rattle.sil_ast.specs.declared.signature.Signature.{Signature}
use Rattle.sil_ast.specs.declared.type_name.TypeName.{TypeName}
use Rattle.argument_conventions.specs.Arguments.{argument_type, arguments_of}
use Rattle.sil_types_declarations.specs.TypeDefinitions.Declarations.{Declarations}
use Rattle.sil_types.specs.Typing.Builtins.{bit}
use Rattle.sil_types.specs.Typing.RowTypes.{keeps_row, passes, written}
use Rattle.sil_types.specs.Typing.Same.{all_pairs, is_same_type}
use Rattle.sil_types.specs.Typing.Shapes.{object_at, weak_at, unowned_at}
use Rattle.sil_types.specs.Typing.Values.{type_of_value}

-- the operand's value has this type
abbrev pub has_type : List (Option TypeName) → Operand → TypeName → Bool
has_type types o t = passes (is_same_type t) (type_of_value types o)

abbrev pub is_as_written_by : List (Option TypeName) → Operand → Option TypeName → Bool
is_as_written_by types o None = true
is_as_written_by types o (Some t) = has_type types o t

-- where a type is written at the operand, its value has this type
abbrev pub is_as_written : List (Option TypeName) → Operand → Bool
is_as_written types o = is_as_written_by types o o.ty

abbrev pub are_as_written : List (Option TypeName) → List Operand → Bool
are_as_written types os = list_all (is_as_written types) os

abbrev pub edge_is_as_written : List (Option TypeName) → Edge → Bool
edge_is_as_written types e = are_as_written types e.args

-- the types of what is handed over in a call
abbrev pub argument_types : Signature → List TypeName
argument_types s = map argument_type (arguments_of s)

-- the operands that have no written type, but for a function that is called
abbrev pub bare_by : BareOperands → List Operand → List Operand
bare_by NoBare os = []
bare_by StoredValue os = take 1 os
bare_by WeakValue os = take 1 os
bare_by UnownedValue os = take 1 os
bare_by Condition os = take 1 os
bare_by Arguments os = drop 1 os

-- the types that the row asks of these
abbrev pub asked_by : BareOperands → Inst → List TypeName
asked_by NoBare i = []
asked_by StoredValue i = option_to_list (option_and_then object_at (written 1 i))
asked_by WeakValue i = option_to_list (option_and_then weak_at (written 1 i))
asked_by UnownedValue i = option_to_list (option_and_then unowned_at (written 1 i))
asked_by Condition i = bit ∷ []
asked_by Arguments i = flat_map argument_types (option_to_list i.signature)

abbrev pub are_as_asked_by : BareOperands → List (Option TypeName) → Inst → Bool
are_as_asked_by bare types i = all_pairs (has_type types) (bare_by bare i.operands) (asked_by bare i)

-- the operands without a written type have the types that the row asks for
abbrev pub are_as_asked : List (Option TypeName) → Inst → Bool
are_as_asked types i = are_as_asked_by (bare_operands_of i.op) types i

-- the types that are written are those that the row asks for, and each operand's value has the type that is written or asked
abbrev pub has_operand_types : Declarations → List (Option TypeName) → Inst → Bool
has_operand_types d types i =
    keeps_row d i
    && are_as_written types i.operands
    && list_all (edge_is_as_written types) i.edges
    && are_as_asked types i

-- 201: an operand's written type differs from its value's, or what the row asks of types isn't kept
abbrev pub has_wrong_operand_type : Declarations → List (Option TypeName) → Inst → Bool
has_wrong_operand_type d types i = not (has_operand_types d types i)
