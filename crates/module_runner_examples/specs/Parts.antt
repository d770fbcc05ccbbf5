-- Short names for the parts of modules that are written out as terms.
use Rattle.std.specs.Prelude.{ℕ, List, [], ◌∷◌, Option, Some, None, Bool, true, false, codes}
use Rattle.instruction_table.specs.declared.op.Op.{Op}
use Rattle.sil_ast.specs.declared.debug.Debug.{Debug}
use Rattle.sil_ast.specs.declared.function.ArgKind.{ArgKind}
use Rattle.sil_ast.specs.declared.function.BlockArg.{BlockArg}
use Rattle.sil_ast.specs.declared.inst.Edge.{Edge}
use Rattle.sil_ast.specs.declared.inst.Inst.{Inst}
use Rattle.sil_ast.specs.declared.inst.Qualifier.TheVariants as qualifier
use Rattle.sil_ast.specs.declared.member.Member.{Member}
use Rattle.sil_ast.specs.declared.module.Imports.{Imports}
use Rattle.sil_ast.specs.declared.operands.Operand.{Operand}
use Rattle.sil_ast.specs.declared.place.BlockId.{BlockId}
use Rattle.sil_ast.specs.declared.place.FuncId.{FuncId}
use Rattle.sil_ast.specs.declared.place.ValueId.{ValueId}
use Rattle.sil_ast.specs.declared.signature.Convention.{Convention}
use Rattle.sil_ast.specs.declared.signature.Given.{Given}
use Rattle.sil_ast.specs.declared.signature.Param.{Param}
use Rattle.sil_ast.specs.declared.signature.Passing.{Passing}
use Rattle.sil_ast.specs.declared.signature.Signature.{Signature}
use Rattle.sil_ast.specs.declared.type_name.TypeName.{TypeName}
use Rattle.sil_ast.specs.declared.vtable.Vtable.{Vtable}
use Rattle.ownership_kinds_chains.specs.declared.ownership_chains.facts.Facts.{Facts}
use Rattle.sil_types_declarations.specs.declared.type_definitions.kind.Kind.TheVariants as kinds
use Rattle.holder_model_values.specs.RunValues.Layers.{CaseLayer}
use Rattle.holder_model_values.specs.RunValues.Shapes as shape
use Rattle.holder_model_values.specs.RunValues.Shapes.{Shape}
use Rattle.holder_model.specs.ModuleFacts.{ModuleFacts}
use Rattle.holder_model.specs.ModuleShapes.{ClassShape, ModuleShapes}

-- the value, the block and the function with this number
abbrev pub v : ℕ → ValueId
v n = record { 0 = n }

abbrev pub bb : ℕ → BlockId
bb n = record { 0 = n }

abbrev pub fn : ℕ → FuncId
fn n = record { 0 = n }

-- an operand with its type, and a bare one
abbrev pub typed : ℕ → TypeName → Operand
typed n t = record { value = v n; ty = Some t }

abbrev pub bare : ℕ → Operand
bare n = record { value = v n; ty = None }

-- `#T.m`
abbrev pub member : List ℕ → List ℕ → Member
member owner name = record { owner = owner; name = name }

abbrev pub no_debug : Debug
no_debug = record { name = None; binding = None; argno = None; deref = false }

-- an instruction with these results and operands, and no other part
abbrev pub inst : Op → List ValueId → List Operand → Inst
inst o results operands = record {
  op = o;
  qualifier = qualifier.Plain;
  lexical = false;
  var_decl = false;
  function = None;
  results = results;
  operands = operands;
  ty = None;
  signature = None;
  member = None;
  number = None;
  text = None;
  debug = no_debug;
  edges = [];
}

-- an edge with what it hands over, and the one of a case
abbrev pub edge : ℕ → List Operand → Edge
edge n args = record { block = bb n; args = args; case_of = None }

abbrev pub case_edge : List ℕ → List ℕ → ℕ → Edge
case_edge owner name n = record { block = bb n; args = []; case_of = Some (member owner name) }

abbrev pub arg : ℕ → ArgKind → TypeName → BlockArg
arg n k t = record { value = v n; kind = k; ty = t }

abbrev pub signed_as : Convention → List Param → List Given → Signature
signed_as c params results = record { convention = c; params = params; results = results }

abbrev pub param : Passing → TypeName → Param
param p t = record { passing = p; ty = t }

-- a result that is given plainly, owned, or in a place
abbrev pub given : TypeName → Given
given t = record { owned = false; out = false; ty = t }

abbrev pub given_owned : TypeName → Given
given_owned t = record { owned = true; out = false; ty = t }

abbrev pub given_out : TypeName → Given
given_out t = record { owned = false; out = true; ty = t }

abbrev pub imports : Bool → Bool → Imports
imports builtin swift = record { builtin = builtin; swift = swift }

abbrev pub vtable : List ℕ → ℕ → Vtable
vtable class n = record { class_name = class; entry = Some (record { owner = class; function = fn n }) }

abbrev pub empty_vtable : List ℕ → Vtable
empty_vtable class = record { class_name = class; entry = None }

-- what is known of an owned value, of a lent one and of any other one, with their bases
abbrev pub owned : ℕ → Option Facts
owned n = Some (record { kind = kinds.Owned; bases = v n ∷ [] })

abbrev pub lent : List ValueId → Option Facts
lent bases = Some (record { kind = kinds.Guaranteed; bases = bases })

abbrev pub plain : List ValueId → Option Facts
plain bases = Some (record { kind = kinds.Plain; bases = bases })

-- the shape of an optional, and the fields of a class by their shapes
abbrev pub optional : Shape → Shape
optional s = shape.Enum (codes "Optional") (shape.PlainCase (codes "none") (shape.FullCase (codes "some") s shape.NoCase))

abbrev pub plain_case : List ℕ → CaseLayer Shape
plain_case name = record { name = name; payload = None }

abbrev pub full_case : List ℕ → Shape → CaseLayer Shape
full_case name s = record { name = name; payload = Some s }

abbrev pub class_with : List ℕ → List Shape → ClassShape
class_with name fields = record { name = name; fields = fields }

abbrev pub shapes_with : List ClassShape → List (List Shape) → ModuleShapes
shapes_with classes functions = record { functions = functions; classes = classes }

abbrev pub facts_with : ModuleShapes → List (List (Option Facts)) → ModuleFacts
facts_with shapes facts = record { shapes = shapes; facts = facts }
