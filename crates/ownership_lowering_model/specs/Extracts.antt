-- The extracts that stand for a `destructure_struct` or a `destructure_tuple`: one for each member, in order.
use Rattle.std.specs.Prelude.{ℕ, ◌+◌, List, [], ◌∷◌, map, unwrap_or}
use Rattle.std.specs.List.{flat_map}
use Rattle.std.specs.Option.{option_to_list}
use Rattle.sil_ast.specs.declared.decl.Field.{Field}
use Rattle.sil_ast.specs.declared.inst.Inst.{Inst}
use Rattle.sil_ast.specs.declared.member.Member.{Member}
use Rattle.sil_ast.specs.declared.operands.Operand.{Operand}
use Rattle.sil_ast.specs.declared.place.ValueId.{ValueId}
use Rattle.sil_ast.specs.declared.type_name.TypeName.{TypeName, out-TypeName}
use Rattle.numbered_form.specs.Names.{Name}
use Rattle.sil_types_declarations.specs.TypeDefinitions.Declarations.{Declarations}
use Rattle.ownership_kinds_origins.specs.sil_types.Typing.Shapes.{fields_of_struct, name_in}
use Rattle.ownership_lowering_model.specs.NewInsts.{struct_extract, tuple_extract}

-- `#S.f`
abbrev pub member_of : Name → Field → Member
member_of owner f = record { owner = owner; name = f.name }

abbrev pub members_named : Declarations → TypeName → Name → List Member
members_named d t owner = map (member_of owner) (unwrap_or (fields_of_struct d t) [])

-- the fields of a type that is a struct, as instructions name them
abbrev pub members_of_struct : Declarations → TypeName → List Member
members_of_struct d t = flat_map (members_named d t) (option_to_list (name_in (out-TypeName t)))

abbrev pub field_extracts : Operand → List Member → List ValueId → List Inst
field_extracts o [] vs = []
field_extracts o (m ∷ ms) [] = []
field_extracts o (m ∷ ms) (v ∷ vs) = struct_extract o m v ∷ field_extracts o ms vs

-- each of the values is the field at its place
abbrev pub extracts_fields : Declarations → List ValueId → Operand → List Inst
extracts_fields d vs o = field_extracts o (flat_map (members_of_struct d) (option_to_list o.ty)) vs

-- from the element with this number on
abbrev pub element_extracts : Operand → ℕ → List ValueId → List Inst
element_extracts o n [] = []
element_extracts o n (v ∷ vs) = tuple_extract o n v ∷ element_extracts o (n + 1) vs

-- each of the values is the element at its place
abbrev pub extracts_elements : List ValueId → Operand → List Inst
extracts_elements vs o = element_extracts o 0 vs
