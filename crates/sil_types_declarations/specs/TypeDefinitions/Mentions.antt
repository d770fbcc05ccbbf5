-- The types that a module mentions, by its parts, and the members that instructions name.
use Rattle.std.specs.Prelude.{List, [], ◌∷◌, ◌++◌, Option, map, if◌then◌else◌}
use Rattle.std.specs.List.{flat_map}
use Rattle.std.specs.Option.{option_to_list}
use Rattle.sil_ast.specs.instruction_table.Forms.{makes_tuple, may_have_storage}
use Rattle.sil_ast.specs.declared.decl.Case.{Case}
use Rattle.sil_ast.specs.declared.decl.Decl.{Decl}
use Rattle.sil_ast.specs.declared.decl.Decl.TheVariants.{Struct, Enum, Class}
use Rattle.sil_ast.specs.declared.decl.Field.{Field}
use Rattle.sil_ast.specs.declared.decl.Storage.{Storage}
use Rattle.sil_ast.specs.declared.decl.Storage.TheVariants.{Strong, Weak, Unowned}
use Rattle.sil_ast.specs.declared.function.Block.{Block}
use Rattle.sil_ast.specs.declared.function.BlockArg.{BlockArg}
use Rattle.sil_ast.specs.declared.function.Function.{Function}
use Rattle.sil_ast.specs.declared.inst.Edge.{Edge}
use Rattle.sil_ast.specs.declared.inst.Inst.{Inst}
use Rattle.sil_ast.specs.declared.member.Member.{Member}
use Rattle.sil_ast.specs.declared.module.Module.{Module}
use Rattle.sil_ast.specs.instruction_table.declared.op.Op.{Op}
use Rattle.sil_ast.specs.declared.operands.Operand.{Operand}
use Rattle.sil_ast.specs.declared.signature.Given.{Given}
use Rattle.sil_ast.specs.declared.signature.Param.{Param}
use Rattle.sil_ast.specs.declared.signature.Signature.{Signature}
use Rattle.sil_ast.specs.declared.type_name.TypeName.{TypeName, out-TypeName}
use Rattle.sil_ast.specs.declared.type_name.TypeName.TheOpen.{TypeName-F}
use Rattle.sil_ast.specs.declared.type_name.TypeName.TheOpen as layer
use Rattle.sil_ast.specs.declared.type_name.TypeName.TheVariants as type
use Rattle.sil_ast.specs.declared.vtable.Vtable.{Vtable}
use Rattle.argument_conventions.specs.Arguments.{direct_results}
use Rattle.numbered_form.specs.Insts.{insts_of}
use Rattle.numbered_form.specs.Names.{decl_name}
use Rattle.sil_types_declarations.specs.declared.type_definitions.standing.Standing.{Standing}
use Rattle.sil_types_declarations.specs.declared.type_definitions.standing.Standing.TheVariants.{Object, WeakField, UnownedField, Slot, Value, Unwritten}

-- a type, and where it stands
pub record Mention : Type 0 where
  pub standing : Standing
  pub ty : TypeName

abbrev pub mention : Standing → TypeName → Mention
mention standing ty = record { standing = standing; ty = ty }

abbrev pub if_there : Standing → Option TypeName → List Mention
if_there standing ty = map (mention standing) (option_to_list ty)

abbrev pub field_standing : Storage → Standing
field_standing Strong = Object
field_standing Weak = WeakField
field_standing Unowned = UnownedField

abbrev pub in_field : Field → Mention
in_field f = mention (field_standing f.storage) f.ty

abbrev pub in_case : Case → List Mention
in_case c = if_there Object c.payload

abbrev pub in_members : Decl → List Mention
in_members (Struct name fields) = map in_field fields
in_members (Enum name cases) = flat_map in_case cases
in_members (Class name superclass fields) = map in_field fields

-- a declaration mentions the type that it declares, and those of its fields and payloads
abbrev pub in_decl : Decl → List Mention
in_decl d = mention Unwritten (type.Named (decl_name d)) ∷ in_members d

abbrev pub in_param : Param → Mention
in_param p = mention Object p.ty

abbrev pub in_result : Given → Mention
in_result r = mention Object r.ty

abbrev pub result_type : Given → TypeName
result_type r = r.ty

-- one type is itself, and other numbers of types are their tuple
abbrev pub together : List TypeName → TypeName
together [] = type.Tuple []
together (t ∷ []) = t
together (t ∷ u ∷ ts) = type.Tuple (t ∷ u ∷ ts)

abbrev pub direct_types : List Given → List TypeName
direct_types results = map result_type (direct_results results)

-- the type of what a `return` gives: of the one direct result, or the tuple of all
abbrev pub direct_type : List Given → TypeName
direct_type results = together (direct_types results)

-- the type that a signature gives
abbrev pub given_type : Signature → TypeName
given_type s = direct_type s.results

abbrev pub in_signature : Signature → List Mention
in_signature s = map in_param s.params ++ map in_result s.results ++ mention Unwritten (given_type s) ∷ []

abbrev pub in_operand : Operand → List Mention
in_operand o = if_there Value o.ty

abbrev pub in_edge : Edge → List Mention
in_edge e = flat_map in_operand e.args

abbrev pub target_at : TypeName → TypeName-F TypeName → TypeName
target_at t (layer.Address target) = target
target_at t _ = t

-- what an address points to; any other type is itself
abbrev pub target_of : TypeName → TypeName
target_of t = target_at t (out-TypeName t)

-- the type of an operand as it is written, an address as its target
abbrev pub operand_types : Operand → List TypeName
operand_types o = map target_of (option_to_list o.ty)

-- a `tuple` instruction mentions the tuple of its operands' types
abbrev pub in_tuple : Inst → List Mention
in_tuple i = if makes_tuple i.op then mention Unwritten (together (flat_map operand_types i.operands)) ∷ [] else []

-- weak and unowned storage may stand directly behind `alloc_stack`
abbrev pub standing_in : Op → Standing
standing_in o = if may_have_storage o then Slot else Object

abbrev pub in_inst : Inst → List Mention
in_inst i =
    if_there (standing_in i.op) i.ty
    ++ flat_map in_signature (option_to_list i.signature)
    ++ flat_map in_operand i.operands
    ++ flat_map in_edge i.edges
    ++ in_tuple i

abbrev pub in_arg : BlockArg → Mention
in_arg a = mention Value a.ty

abbrev pub in_block : Block → List Mention
in_block b = map in_arg b.args ++ flat_map in_inst (insts_of b)

abbrev pub in_function : Function → List Mention
in_function f = in_signature f.signature ++ flat_map in_block f.blocks

-- all types that the module mentions
abbrev pub mentions_of : Module → List Mention
mentions_of m = flat_map in_decl m.decls ++ flat_map in_function m.functions

abbrev pub edge_members : Edge → List Member
edge_members e = option_to_list e.case_of

-- the members `#T.m` and `#E.c!enumelt` that an instruction names
abbrev pub inst_members : Inst → List Member
inst_members i = option_to_list i.member ++ flat_map edge_members i.edges

abbrev pub block_members : Block → List Member
block_members b = flat_map inst_members (insts_of b)

abbrev pub function_members : Function → List Member
function_members f = flat_map block_members f.blocks

-- a declaration, a function or a vtable
pub data Item : Type 0 where
  decl : Decl → Item
  function : Function → Item
  vtable : Vtable → Item

-- the items of a module, as they are numbered
abbrev pub items_of : Module → List Item
items_of m = map decl m.decls ++ map function m.functions ++ map vtable m.vtables

-- the types that an item mentions
abbrev pub mentioned_by : Item → List Mention
mentioned_by (decl d) = in_decl d
mentioned_by (function f) = in_function f
mentioned_by (vtable v) = []

-- the members that an item's instructions name
abbrev pub members_named_by : Item → List Member
members_named_by (decl d) = []
members_named_by (function f) = function_members f
members_named_by (vtable v) = []
