-- What stands in a value, asked only where its variant stands; elsewhere something empty.
use Rattle.std.specs.Prelude.{List, [], ◌∷◌, Option, Some, None, false}
use Rattle.sil_ast.specs.declared.debug.Debug.{Debug}
use Rattle.sil_ast.specs.declared.decl.Storage.TheVariants.{Strong}
use Rattle.sil_ast.specs.declared.function.ArgKind.{ArgKind}
use Rattle.sil_ast.specs.declared.function.ArgKind.TheVariants as kind
use Rattle.sil_ast.specs.declared.function.Linkage.{Linkage}
use Rattle.sil_ast.specs.declared.function.Linkage.TheVariants as linkage
use Rattle.sil_ast.specs.declared.inst.Qualifier.TheVariants as qualifier
use Rattle.sil_ast.specs.declared.member.Member.{Member}
use Rattle.sil_ast.specs.declared.module.Imports.{Imports}
use Rattle.sil_ast.specs.declared.module.Stage.{Stage}
use Rattle.sil_ast.specs.declared.module.Stage.TheVariants as stage
use Rattle.instruction_table.specs.declared.op.Op.{Op}
use Rattle.instruction_table.specs.declared.op.Op.TheVariants as op
use Rattle.sil_ast.specs.declared.place.Place.{Place}
use Rattle.sil_ast.specs.declared.signature.Convention.{Convention}
use Rattle.sil_ast.specs.declared.signature.Convention.TheVariants as convention
use Rattle.sil_ast.specs.declared.signature.Signature.{Signature}
use Rattle.sil_ast.specs.declared.type_name.TypeName.{TypeName}
use Rattle.sil_ast.specs.declared.type_name.TypeName.TheVariants as ty
use Rattle.sil_grammar_values.specs.declared.value.Flags.{Flags}
use Rattle.sil_grammar_values.specs.declared.value.Value.{Value}
use Rattle.sil_grammar_values.specs.declared.value.Value.TheVariants as v
use Rattle.sil_grammar_tree.specs.declared.written_tree.written_declarations.WrittenCase.{WrittenCase}
use Rattle.sil_grammar_tree.specs.declared.written_tree.written_declarations.WrittenDecl.TheVariants as decl
use Rattle.sil_grammar_tree.specs.declared.written_tree.written_declarations.WrittenField.{WrittenField}
use Rattle.sil_grammar_tree.specs.declared.written_tree.written_declarations.WrittenToken.{WrittenToken}
use Rattle.sil_grammar_tree.specs.declared.written_tree.written_functions.WrittenArg.{WrittenArg}
use Rattle.sil_grammar_tree.specs.declared.written_tree.written_functions.WrittenBlock.{WrittenBlock}
use Rattle.sil_grammar_tree.specs.declared.written_tree.written_instructions.WrittenEdge.{WrittenEdge}
use Rattle.sil_grammar_tree.specs.declared.written_tree.written_instructions.WrittenInst.{WrittenInst}
use Rattle.sil_grammar_tree.specs.declared.written_tree.written_instructions.WrittenOperand.{WrittenOperand}
use Rattle.sil_grammar_tree.specs.declared.written_tree.written_instructions.WrittenQualifier.{WrittenQualifier}
use Rattle.sil_grammar_tree.specs.declared.written_tree.written_module.WrittenEntry.{WrittenEntry}
use Rattle.sil_grammar_tree.specs.declared.written_tree.written_module.WrittenItem.{WrittenItem}
use Rattle.sil_grammar_tree.specs.declared.written_tree.written_module.WrittenItem.TheVariants as item
use Rattle.sil_grammar_values.specs.declared.written_types.GivenList.{GivenList}
use Rattle.sil_grammar_values.specs.declared.written_types.ParamList.{ParamList}
use Rattle.sil_grammar_values.specs.declared.written_types.TypeList.{TypeList}
use Rattle.sil_grammar_values.specs.declared.written_types.WrittenType.{WrittenType}

-- of no token: it stands behind every token
abbrev pub no_place : Place
no_place = record { offset = 4294967295; line = 0; column = 0 }

abbrev pub no_token : WrittenToken
no_token = record { text = []; place = no_place }

abbrev pub no_debug : Debug
no_debug = record { binding = None; name = None; argno = None; deref = false }

abbrev pub no_qualifier : WrittenQualifier
no_qualifier = record { word = qualifier.Plain; place = no_place }

-- an instruction of which nothing but its mnemonic is written
abbrev pub bare_inst : Op → Place → WrittenInst
bare_inst o mnemonic = record {
  op = o;
  mnemonic = mnemonic;
  results = [];
  operands = [];
  ty = None;
  signature = None;
  function = None;
  member = None;
  number = None;
  text = None;
  qualifier = no_qualifier;
  lexical = false;
  var_decl = false;
  debug = no_debug;
  edges = [];
}

abbrev pub no_inst : WrittenInst
no_inst = bare_inst op.Unreachable no_place

abbrev pub no_type : WrittenType
no_type = record { ty = ty.Int 0; depth = 1; first = no_place; last = no_place }

abbrev pub no_types : TypeList
no_types = record { types = []; firsts = []; depth = 0 }

abbrev pub no_params : ParamList
no_params = record { params = []; firsts = [] }

abbrev pub no_givens : GivenList
no_givens = record { givens = []; firsts = [] }

abbrev pub no_signature : Signature
no_signature = record { convention = convention.Thin; params = []; results = [] }

unfoldable pub token_of : Value → WrittenToken
token_of (v.Token token) = token
token_of _ = no_token

-- the name of a superclass, where there is one
unfoldable pub superclass_of : Value → Option WrittenToken
superclass_of (v.Token token) = Some token
superclass_of _ = None

unfoldable pub stage_of : Value → Stage
stage_of (v.Stage s) = s
stage_of _ = stage.Canonical

unfoldable pub imports_of : Value → Imports
imports_of (v.Imports imports) = imports
imports_of _ = record { builtin = false; swift = false }

unfoldable pub items_of : Value → List WrittenItem
items_of (v.Items items) = items
items_of _ = []

unfoldable pub item_of : Value → WrittenItem
item_of (v.Item i) = i
item_of _ = item.Decl (decl.Class no_token None [])

unfoldable pub fields_of : Value → List WrittenField
fields_of (v.Fields fields) = fields
fields_of _ = []

unfoldable pub field_of : Value → WrittenField
field_of (v.Field f) = f
field_of _ = record { name = no_token; storage = Strong; ty = ty.Int 0 }

-- the field in front of the others; `deinit` and `init()` are none
unfoldable pub field_before : Value → List WrittenField → List WrittenField
field_before (v.Field f) others = f ∷ others
field_before _ others = others

unfoldable pub cases_of : Value → List WrittenCase
cases_of (v.Cases cases) = cases
cases_of _ = []

unfoldable pub type_of : Value → WrittenType
type_of (v.Type t) = t
type_of _ = no_type

unfoldable pub payload_of : Value → Option TypeName
payload_of (v.Type t) = Some t.ty
payload_of _ = None

unfoldable pub types_of : Value → TypeList
types_of (v.Types types) = types
types_of _ = no_types

unfoldable pub questions_of : Value → List Place
questions_of (v.Questions questions) = questions
questions_of _ = []

unfoldable pub linkage_of : Value → Linkage
linkage_of (v.Linkage l) = l
linkage_of _ = linkage.Plain

unfoldable pub tokens_of : Value → List WrittenToken
tokens_of (v.Tokens tokens) = tokens
tokens_of _ = []

unfoldable pub convention_of : Value → Convention
convention_of (v.Convention c) = c
convention_of _ = convention.Thin

unfoldable pub params_of : Value → ParamList
params_of (v.Params params) = params
params_of _ = no_params

unfoldable pub param_before : Value → ParamList → ParamList
param_before (v.Param p first) others = record { params = p ∷ others.params; firsts = first ∷ others.firsts }
param_before _ others = others

unfoldable pub givens_of : Value → GivenList
givens_of (v.Givens givens) = givens
givens_of _ = no_givens

unfoldable pub given_before : Value → GivenList → GivenList
given_before (v.Given g first) others = record { givens = g ∷ others.givens; firsts = first ∷ others.firsts }
given_before _ others = others

unfoldable pub signature_of : Value → Signature
signature_of (v.Signature s) = s
signature_of _ = no_signature

unfoldable pub blocks_of : Value → List WrittenBlock
blocks_of (v.Blocks blocks) = blocks
blocks_of _ = []

unfoldable pub block_of : Value → WrittenBlock
block_of (v.Block b) = b
block_of _ = record { label = no_token; args = []; insts = []; terminator = no_inst }

unfoldable pub args_of : Value → List WrittenArg
args_of (v.Args args) = args
args_of _ = []

unfoldable pub arg_of : Value → WrittenArg
arg_of (v.Arg a) = a
arg_of _ = record { name = no_token; kind = kind.Plain; ty = ty.Int 0 }

unfoldable pub ownership_of : Value → ArgKind
ownership_of (v.Ownership k) = k
ownership_of _ = kind.Plain

-- behind a `*` a type is that of an address
unfoldable pub starred : Value → TypeName → TypeName
starred v.Star t = ty.Address t
starred _ t = t

unfoldable pub insts_of : Value → List WrittenInst
insts_of (v.Code insts terminator) = insts
insts_of _ = []

unfoldable pub terminator_of : Value → WrittenInst
terminator_of (v.Code insts terminator) = terminator
terminator_of _ = no_inst

unfoldable pub inst_of : Value → WrittenInst
inst_of (v.Inst i) = i
inst_of _ = no_inst

unfoldable pub operands_of : Value → List WrittenOperand
operands_of (v.Operands operands) = operands
operands_of _ = []

unfoldable pub operand_of : Value → WrittenOperand
operand_of (v.Operand o) = o
operand_of _ = record { name = no_token; ty = None }

unfoldable pub edges_of : Value → List WrittenEdge
edges_of (v.Edges edges) = edges
edges_of _ = []

unfoldable pub edge_of : Value → WrittenEdge
edge_of (v.Edge e) = e
edge_of _ = record { label = no_token; args = []; case_of = None }

unfoldable pub member_of : Value → Member
member_of (v.Member m) = m
member_of _ = record { owner = []; name = [] }

unfoldable pub flags_of : Value → Flags
flags_of (v.Flags f) = f
flags_of _ = record { lexical = false; var_decl = false }

unfoldable pub qualifier_of : Value → WrittenQualifier
qualifier_of (v.Qualifier q) = q
qualifier_of _ = no_qualifier

unfoldable pub debug_of : Value → Debug
debug_of (v.Debug d) = d
debug_of _ = no_debug

unfoldable pub entry_of : Value → Option WrittenEntry
entry_of (v.Entry e) = Some e
entry_of _ = None
