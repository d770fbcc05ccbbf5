-- What each instruction asks of the types that are written in it, and the types of its results.
use Rattle.std.specs.Prelude.{ℕ, List, [], ◌∷◌, Bool, false, not, ◌&&◌, ◌||◌, ◌==◌, Option, Some, None, option_map}
use Rattle.std.specs.Prelude.{option_and_then, slice_get, map, length, is_some, unwrap_or, if◌then◌else◌}
use Rattle.std.specs.List.{flat_map, list_all}
use Rattle.std.specs.Option.{option_to_list}
use Rattle.sil_ast.specs.declared.decl.Field.{Field}
use Rattle.sil_ast.specs.declared.inst.Inst.{Inst}
use Rattle.sil_ast.specs.declared.member.Member.{Member}
use Rattle.sil_ast.specs.instruction_table.declared.op.Op.{Op}
use Rattle.sil_ast.specs.instruction_table.declared.op.Op.TheVariants as op
use Rattle.sil_ast.specs.declared.operands.Operand.{Operand}
use Rattle.sil_ast.specs.declared.type_name.TypeName.{TypeName, out-TypeName}
use Rattle.sil_ast.specs.declared.type_name.TypeName.TheVariants as type
use Rattle.sil_types_declarations.specs.numbered_form.Names.{Name}
use Rattle.sil_types_declarations.specs.TypeDefinitions.Declarations.{Declarations, inherits}
use Rattle.sil_types_declarations.specs.TypeDefinitions.Lookups.{Payload}
use Rattle.sil_types_declarations.specs.TypeDefinitions.Mentions.{given_type}
use Rattle.sil_types_declarations.specs.TypeDefinitions.Rules.{is_class_type}
use Rattle.sil_types.specs.Typing.Builtins.{Builtin, builtin_named, builtin_operands, builtin_result}
use Rattle.sil_types.specs.Typing.Same.{is_same_type, are_same_types}
use Rattle.sil_types.specs.Typing.Shapes.{where_it, is_object, is_nontrivial, is_storage, is_integer, is_bit, target, object_at, weak_at, unowned_at, elements}
use Rattle.sil_types.specs.Typing.Shapes.{element_of, fields_of_struct, field_type, field_address, struct_field, class_field, is_enum, case_in, name_in}

abbrev pub type_of : Operand → Option TypeName
type_of o = o.ty

-- the type written at the operand with this index
abbrev pub written : ℕ → Inst → Option TypeName
written n i = option_and_then type_of (slice_get i.operands n)

abbrev pub types_of : Operand → List TypeName
types_of o = option_to_list o.ty

-- the types written at some operands, in order; in numbered form each operand of `builtin`, `struct`, `tuple`, `enum` and of an edge has one
abbrev pub all_written : List Operand → List TypeName
all_written os = flat_map types_of os

-- what a row gives: the types of its results, or nothing where the types written in it aren't those that it asks for
abbrev pub MadeTypes : Type 0
MadeTypes = Option (List TypeName)

-- a result of this type, where there is such a type
abbrev pub gives : Option TypeName → MadeTypes
gives t = option_map (λ ty. ty ∷ []) t

-- no result, where there is such a type
abbrev pub takes : Option TypeName → MadeTypes
takes t = option_map (λ ty. []) t

abbrev pub gives_builtin : Inst → Option TypeName → Builtin → MadeTypes
gives_builtin i ty b =
    if are_same_types (all_written i.operands) (builtin_operands b)
    then gives (where_it (is_same_type (builtin_result b)) ty)
    else None

-- `builtin "..."(..) : $T` by the operation that it names
abbrev pub of_builtin : Inst → MadeTypes
of_builtin i = option_and_then (gives_builtin i i.ty) (option_and_then builtin_named i.text)

abbrev pub passes : {A : Type 0} → (A → Bool) → Option A → Bool
passes test None = false
passes test (Some x) = test x

abbrev pub are_field_types : List TypeName → List Field → Bool
are_field_types ts fields = are_same_types ts (map field_type fields)

abbrev pub is_struct_of : Declarations → List TypeName → TypeName → Bool
is_struct_of d ts t = passes (are_field_types ts) (fields_of_struct d t)

-- `struct $S (..)` with the fields of S in order
abbrev pub of_struct : Declarations → Inst → MadeTypes
of_struct d i = gives (where_it (is_struct_of d (all_written i.operands)) i.ty)

abbrev pub are_elements : List TypeName → Bool
are_elements ts = not (length ts == 1) && list_all is_object ts

-- `tuple (..)` of objects, but not of one
abbrev pub of_tuple : Inst → MadeTypes
of_tuple i = if are_elements (all_written i.operands) then Some (type.Tuple (all_written i.operands) ∷ []) else None

abbrev pub is_payload : List TypeName → Payload → Bool
is_payload ts p = are_same_types ts (option_to_list p.ty)

abbrev pub is_made_by_case : Declarations → Inst → TypeName → Bool
is_made_by_case d i t = passes (is_payload (all_written i.operands)) (option_and_then (λ m. case_in d m t) i.member)

-- `enum $E, #E.c!enumelt, V`, with V where c has a payload, of its type
abbrev pub of_enum : Declarations → Inst → MadeTypes
of_enum d i = gives (where_it (λ t. is_enum d t && is_made_by_case d i t) i.ty)

abbrev pub member_type : (Member → TypeName → Option Field) → (Field → TypeName) → Inst → Option TypeName → MadeTypes
member_type find type_of_field i t = gives (option_map type_of_field (option_and_then (λ m. option_and_then (find m) t) i.member))

abbrev pub address_of_field : Field → TypeName
address_of_field f = type.Address f.ty

abbrev pub address_of : TypeName → TypeName
address_of t = type.Address t

abbrev pub all_fields : Declarations → TypeName → MadeTypes
all_fields d t = option_map (map field_type) (fields_of_struct d t)

abbrev pub is_counted_value : Declarations → TypeName → Bool
is_counted_value d t = is_nontrivial d t && not (is_class_type d t)

abbrev pub inherits_by : Declarations → Option Name → Option Name → Bool
inherits_by d None other = false
inherits_by d (Some class) None = false
inherits_by d (Some class) (Some other) = inherits d class other

-- the types are classes, of which the first inherits from the second
abbrev pub is_derived : Declarations → TypeName → TypeName → Bool
is_derived d t other = inherits_by d (name_in (out-TypeName t)) (name_in (out-TypeName other))

abbrev pub is_base : Declarations → Option TypeName → TypeName → Bool
is_base d t other = passes (λ value. is_derived d value other) t

-- `upcast V to $B`, where V's class inherits from B
abbrev pub of_upcast : Declarations → Inst → MadeTypes
of_upcast d i = gives (where_it (is_base d (written 0 i)) i.ty)

-- by the instruction: what it asks of the types written in it, and what it gives
abbrev pub given_by : Op → Declarations → Inst → MadeTypes
given_by op.IntegerLiteral d i = gives (where_it is_integer i.ty)
given_by op.FunctionRef d i = Some []
given_by op.Builtin d i = of_builtin i
given_by op.CondFail d i = takes (where_it is_bit (written 0 i))
given_by op.AllocRef d i = gives (where_it (is_class_type d) i.ty)
given_by op.AllocStack d i = gives (option_map address_of i.ty)
given_by op.DeallocStack d i = takes (option_and_then target (written 0 i))
given_by op.CopyValue d i = gives (where_it (is_nontrivial d) (written 0 i))
given_by op.DestroyValue d i = takes (where_it (is_nontrivial d) (written 0 i))
given_by op.MoveValue d i = gives (where_it is_object (written 0 i))
given_by op.BeginBorrow d i = gives (where_it (is_nontrivial d) (written 0 i))
given_by op.EndBorrow d i = takes (where_it (is_nontrivial d) (written 0 i))
given_by op.Load d i = gives (option_and_then object_at (written 0 i))
given_by op.Store d i = takes (option_and_then object_at (written 1 i))
given_by op.LoadBorrow d i = gives (where_it (is_nontrivial d) (option_and_then target (written 0 i)))
given_by op.DestroyAddr d i = takes (where_it (λ t. is_nontrivial d t || is_storage t) (option_and_then target (written 0 i)))
given_by op.LoadWeak d i = gives (option_and_then weak_at (written 0 i))
given_by op.StoreWeak d i = takes (option_and_then weak_at (written 1 i))
given_by op.LoadUnowned d i = gives (option_and_then unowned_at (written 0 i))
given_by op.StoreUnowned d i = takes (option_and_then unowned_at (written 1 i))
given_by op.Struct d i = of_struct d i
given_by op.Tuple d i = of_tuple i
given_by op.Enum d i = of_enum d i
given_by op.StructExtract d i = member_type (struct_field d) field_type i (written 0 i)
given_by op.TupleExtract d i = gives (option_and_then (element_of i.number) (written 0 i))
given_by op.DestructureStruct d i = option_and_then (all_fields d) (written 0 i)
given_by op.DestructureTuple d i = option_and_then elements (written 0 i)
given_by op.StructElementAddr d i = member_type (struct_field d) address_of_field i (option_and_then target (written 0 i))
given_by op.TupleElementAddr d i = gives (option_map address_of (option_and_then (element_of i.number) (option_and_then target (written 0 i))))
given_by op.RefElementAddr d i = member_type (class_field d) field_address i (written 0 i)
given_by op.Apply d i = gives (option_map given_type i.signature)
given_by op.DebugValue d i = Some []
given_by op.StrongRetain d i = takes (where_it (is_class_type d) (written 0 i))
given_by op.StrongRelease d i = takes (where_it (is_class_type d) (written 0 i))
given_by op.RetainValue d i = takes (where_it (is_counted_value d) (written 0 i))
given_by op.ReleaseValue d i = takes (where_it (is_counted_value d) (written 0 i))
given_by op.Br d i = Some []
given_by op.CondBr d i = Some []
given_by op.SwitchEnum d i = takes (where_it (is_enum d) (written 0 i))
given_by op.Return d i = Some []
given_by op.Unreachable d i = Some []
given_by op.Upcast d i = of_upcast d i

-- what the row gives of an instruction
abbrev pub row_types : Declarations → Inst → MadeTypes
row_types d i = given_by i.op d i

-- the types that are written in the instruction are those that its row asks for
abbrev pub keeps_row : Declarations → Inst → Bool
keeps_row d i = is_some (row_types d i)

-- the types of the results that its row gives
abbrev pub made_types : Declarations → Inst → List TypeName
made_types d i = unwrap_or (row_types d i) []
