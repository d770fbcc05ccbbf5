-- Short names for the parts of the generated module.
use Rattle.std.specs.Prelude.{ℕ, List, [], Some, None, false}
use Rattle.instruction_table.specs.declared.op.Op.{Op}
use Rattle.sil_ast.specs.declared.debug.Debug.{Debug}
use Rattle.sil_ast.specs.declared.function.ArgKind.{ArgKind}
use Rattle.sil_ast.specs.declared.function.Block.{Block}
use Rattle.sil_ast.specs.declared.function.BlockArg.{BlockArg}
use Rattle.sil_ast.specs.declared.function.Form.TheVariants.{Ossa}
use Rattle.sil_ast.specs.declared.function.Function.{Function}
use Rattle.sil_ast.specs.declared.function.Linkage.TheVariants as linkage
use Rattle.sil_ast.specs.declared.inst.Edge.{Edge}
use Rattle.sil_ast.specs.declared.inst.Inst.{Inst}
use Rattle.sil_ast.specs.declared.inst.Qualifier.TheVariants as qualifier
use Rattle.sil_ast.specs.declared.member.Member.{Member}
use Rattle.sil_ast.specs.declared.operands.Operand.{Operand}
use Rattle.sil_ast.specs.declared.place.BlockId.{BlockId}
use Rattle.sil_ast.specs.declared.place.FuncId.{FuncId}
use Rattle.sil_ast.specs.declared.place.ValueId.{ValueId}
use Rattle.sil_ast.specs.declared.signature.Convention.TheVariants.{Thin}
use Rattle.sil_ast.specs.declared.signature.Signature.{Signature}
use Rattle.sil_ast.specs.declared.type_name.TypeName.{TypeName}

-- the value, the block and the function with this number
abbrev pub v : ℕ → ValueId
v n = record { 0 = n }

abbrev pub bb : ℕ → BlockId
bb n = record { 0 = n }

abbrev pub fn : ℕ → FuncId
fn n = record { 0 = n }

-- an operand with its type, and a bare one
abbrev pub typed : ℕ → TypeName → Operand
typed n t = record { value = v n; ty = Some t }

abbrev pub bare : ℕ → Operand
bare n = record { value = v n; ty = None }

-- `#T.m`
abbrev pub member : List ℕ → List ℕ → Member
member owner name = record { owner = owner; name = name }

abbrev pub no_debug : Debug
no_debug = record { name = None; binding = None; argno = None; deref = false }

-- an instruction with these results and operands, and no other part
abbrev pub inst : Op → List ValueId → List Operand → Inst
inst o results operands = record {
  op = o;
  qualifier = qualifier.Plain;
  lexical = false;
  var_decl = false;
  function = None;
  results = results;
  operands = operands;
  ty = None;
  signature = None;
  member = None;
  number = None;
  text = None;
  debug = no_debug;
  edges = [];
}

-- an edge with what it hands over
abbrev pub edge : ℕ → List Operand → Edge
edge n args = record { block = bb n; args = args; case_of = None }

abbrev pub arg : ℕ → ArgKind → TypeName → BlockArg
arg n k t = record { value = v n; kind = k; ty = t }

abbrev pub block : List BlockArg → List Inst → Inst → Block
block args insts terminator = record { args = args; insts = insts; terminator = terminator }

-- `$@convention(thin) () -> ()`
abbrev pub of_nothing : Signature
of_nothing = record { convention = Thin; params = []; results = [] }

-- a function in ownership form that takes and gives nothing
abbrev pub function : List ℕ → List Block → Function
function name blocks = record {
  name = name;
  form = Ossa;
  linkage = linkage.Plain;
  attributes = [];
  signature = of_nothing;
  blocks = blocks;
}
