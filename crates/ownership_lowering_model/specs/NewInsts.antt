-- The instructions that lowering writes anew: retains and releases, loads of what a place held, and extracts.
use Rattle.std.specs.Prelude.{ℕ, pos, List, [], ◌∷◌, false, cond, Option, Some, None, option_and_then}
use Rattle.instruction_table.specs.declared.op.Op.{Op}
use Rattle.instruction_table.specs.declared.op.Op.TheVariants as op
use Rattle.sil_ast.specs.declared.debug.Debug.{Debug}
use Rattle.sil_ast.specs.declared.inst.Inst.{Inst}
use Rattle.sil_ast.specs.declared.inst.Qualifier.TheVariants as word
use Rattle.sil_ast.specs.declared.member.Member.{Member}
use Rattle.sil_ast.specs.declared.operands.Operand.{Operand}
use Rattle.sil_ast.specs.declared.place.ValueId.{ValueId}
use Rattle.sil_ast.specs.declared.type_name.TypeName.{TypeName}
use Rattle.sil_types_declarations.specs.TypeDefinitions.Declarations.{Declarations}
use Rattle.sil_types_declarations.specs.TypeDefinitions.Rules.{is_class_type}
use Rattle.ownership_kinds_origins.specs.sil_types.Typing.RowTypes.{passes}
use Rattle.ownership_kinds_origins.specs.sil_types.Typing.Shapes.{target}

-- nothing is said for a debugger
abbrev pub no_debug : Debug
no_debug = record { binding = None; name = None; argno = None; deref = false }

-- an instruction that has results and operands and no other part
abbrev pub with_operands : Op → List ValueId → List Operand → Inst
with_operands o results operands = record {
  op = o;
  qualifier = word.Plain;
  lexical = false;
  var_decl = false;
  function = None;
  results = results;
  operands = operands;
  ty = None;
  signature = None;
  member = None;
  number = None;
  text = None;
  debug = no_debug;
  edges = [];
}

-- `%a : $T`
abbrev pub typed_operand : Option TypeName → ValueId → Operand
typed_operand t v = record { value = v; ty = t }

-- the one instruction for a value whose written type is a class, and the other for all other values
abbrev pub by_class : Declarations → Op → Op → Operand → Op
by_class d for_class for_others o = cond (passes (is_class_type d) o.ty) for_class for_others

-- `strong_retain V` for a class, and else `retain_value V`
abbrev pub retain : Declarations → Operand → Inst
retain d o = with_operands (by_class d op.StrongRetain op.RetainValue o) [] (o ∷ [])

-- `strong_release V` for a class, and else `release_value V`
abbrev pub release : Declarations → Operand → Inst
release d o = with_operands (by_class d op.StrongRelease op.ReleaseValue o) [] (o ∷ [])

-- what was loaded from a place under this name, as an operand
abbrev pub loaded_from : Operand → ValueId → Operand
loaded_from place v = typed_operand (option_and_then target place.ty) v

-- `R = load V`
abbrev pub load : Operand → ValueId → Inst
load place v = with_operands op.Load (v ∷ []) (place ∷ [])

-- `R = struct_extract V, #S.f`
abbrev pub struct_extract : Operand → Member → ValueId → Inst
struct_extract o member v = record (with_operands op.StructExtract (v ∷ []) (o ∷ [])) { member = Some member }

-- `R = tuple_extract V, NUMBER`
abbrev pub tuple_extract : Operand → ℕ → ValueId → Inst
tuple_extract o number v = record (with_operands op.TupleExtract (v ∷ []) (o ∷ [])) { number = Some (pos number) }
