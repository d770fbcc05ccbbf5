-- The module that a written module stands for: values are numbered in the order of their definitions, blocks and
-- functions in the order of the text.
use Rattle.std.specs.Prelude.{ℕ, ◌+◌, List, [], ◌∷◌, ◌++◌, length, map, filter, Option, Some, None, Bool, false, if◌then◌else◌, unwrap_or, position}
use Rattle.std.specs.List.{flat_map, list_any}
use Rattle.std.specs.Option.{option_map}
use Rattle.std.specs.Str.{bytes_eq}
use Rattle.instruction_table.specs.Forms.{has_one_result}
use Rattle.sil_ast.specs.declared.decl.Case.{Case}
use Rattle.sil_ast.specs.declared.decl.Decl.{Decl}
use Rattle.sil_ast.specs.declared.decl.Decl.TheVariants as kept
use Rattle.sil_ast.specs.declared.decl.Field.{Field}
use Rattle.sil_ast.specs.declared.function.Block.{Block}
use Rattle.sil_ast.specs.declared.function.BlockArg.{BlockArg}
use Rattle.sil_ast.specs.declared.function.Form.{Form}
use Rattle.sil_ast.specs.declared.function.Form.TheVariants.{External, Lowered, Ossa}
use Rattle.sil_ast.specs.declared.function.Function.{Function}
use Rattle.sil_ast.specs.declared.inst.Edge.{Edge}
use Rattle.sil_ast.specs.declared.inst.Inst.{Inst}
use Rattle.sil_ast.specs.declared.module.Module.{Module}
use Rattle.instruction_table.specs.declared.op.Op.{Op}
use Rattle.sil_ast.specs.declared.operands.Operand.{Operand}
use Rattle.sil_ast.specs.declared.place.FuncId.{FuncId}
use Rattle.sil_ast.specs.declared.place.ValueId.{ValueId}
use Rattle.sil_ast.specs.declared.vtable.DeinitEntry.{DeinitEntry}
use Rattle.sil_ast.specs.declared.vtable.Vtable.{Vtable}
use Rattle.sil_grammar_tree.specs.declared.written_tree.written_declarations.WrittenCase.{WrittenCase}
use Rattle.sil_grammar_tree.specs.declared.written_tree.written_declarations.WrittenDecl.{WrittenDecl}
use Rattle.sil_grammar_tree.specs.declared.written_tree.written_declarations.WrittenDecl.TheVariants as decl
use Rattle.sil_grammar_tree.specs.declared.written_tree.written_declarations.WrittenField.{WrittenField}
use Rattle.sil_grammar_tree.specs.declared.written_tree.written_declarations.WrittenToken.{WrittenToken}
use Rattle.sil_grammar_tree.specs.declared.written_tree.written_functions.WrittenArg.{WrittenArg}
use Rattle.sil_grammar_tree.specs.declared.written_tree.written_functions.WrittenBlock.{WrittenBlock}
use Rattle.sil_grammar_tree.specs.declared.written_tree.written_functions.WrittenFunction.{WrittenFunction}
use Rattle.sil_grammar_tree.specs.declared.written_tree.written_instructions.WrittenEdge.{WrittenEdge}
use Rattle.sil_grammar_tree.specs.declared.written_tree.written_instructions.WrittenInst.{WrittenInst}
use Rattle.sil_grammar_tree.specs.declared.written_tree.written_instructions.WrittenOperand.{WrittenOperand}
use Rattle.sil_grammar_tree.specs.declared.written_tree.written_module.WrittenEntry.{WrittenEntry}
use Rattle.sil_grammar_tree.specs.declared.written_tree.written_module.WrittenModule.{WrittenModule}
use Rattle.sil_grammar_tree.specs.declared.written_tree.written_module.WrittenVtable.{WrittenVtable}
use Rattle.sil_grammar_tree.specs.WrittenTree.Places.{is_kept, is_ossa}
use Rattle.sil_grammar_names.specs.NameScopes.Names.{Name, decls_of, functions_of, function_name, label_of, name_of, vtables_of}

-- the values that an instruction defines, each with its name: a single result may be left without one
abbrev pub defined_by : Op → List WrittenToken → List (Option Name)
defined_by o [] = if has_one_result o then None ∷ [] else []
defined_by o (token ∷ tokens) = map (λ name. Some (name_of name)) (token ∷ tokens)

abbrev pub defined_by_inst : WrittenInst → List (Option Name)
defined_by_inst i = defined_by i.op i.results

abbrev pub defined_by_arg : WrittenArg → Option Name
defined_by_arg a = Some a.name.text

-- the values of a block, in order of definition. A terminator defines none
abbrev pub defined_in : WrittenBlock → List (Option Name)
defined_in b = map defined_by_arg b.args ++ flat_map defined_by_inst b.insts

abbrev pub values_of : WrittenFunction → List (Option Name)
values_of f = flat_map defined_in f.blocks

abbrev pub has_name : Name → Option Name → Bool
has_name name None = false
has_name name (Some other) = bytes_eq name other

-- where names stand among the values, the blocks and the functions that are defined (asked only of these)
abbrev pub value_of : List (Option Name) → WrittenToken → ValueId
value_of values token = record { 0 = unwrap_or (position (has_name token.text) values) 0 }

abbrev pub place_among : List Name → WrittenToken → ℕ
place_among names token = unwrap_or (position (bytes_eq token.text) names) 0

-- the names of a function's module, and of its own
pub record Scope : Type 0 where
  pub functions : List Name
  pub blocks : List Name
  pub values : List (Option Name)

abbrev pub resolved_operand : Scope → WrittenOperand → Operand
resolved_operand s o = record { value = value_of s.values o.name; ty = o.ty }

abbrev pub resolved_edge : Scope → WrittenEdge → Edge
resolved_edge s e = record { block = record { 0 = place_among s.blocks e.label }; args = map (resolved_operand s) e.args; case_of = e.case_of }

abbrev pub function_of : Scope → WrittenToken → FuncId
function_of s token = record { 0 = place_among s.functions token }

-- as many numbers as there are values, from the first on
abbrev pub counted : ℕ → List (Option Name) → List ValueId
counted first [] = []
counted first (value ∷ values) = record { 0 = first } ∷ counted (first + 1) values

-- an instruction with numbers for its names
abbrev pub with_numbers : WrittenInst → List ValueId → Option FuncId → List Operand → List Edge → Inst
with_numbers i results function operands edges = record {
  op = i.op;
  results = results;
  operands = operands;
  ty = i.ty;
  signature = i.signature;
  function = function;
  member = i.member;
  number = i.number;
  text = i.text;
  qualifier = i.qualifier.word;
  lexical = i.lexical;
  var_decl = i.var_decl;
  debug = i.debug;
  edges = edges;
}

-- an instruction whose first result has the number
abbrev pub resolved_inst : Scope → ℕ → WrittenInst → Inst
resolved_inst s first i =
    let results = counted first (defined_by_inst i) in
    with_numbers i results (option_map (function_of s) i.function) (map (resolved_operand s) i.operands) (map (resolved_edge s) i.edges)

abbrev pub resolved_insts : Scope → ℕ → List WrittenInst → List Inst
resolved_insts s first [] = []
resolved_insts s first (i ∷ insts) = resolved_inst s first i ∷ resolved_insts s (first + length (defined_by_inst i)) insts

abbrev pub resolved_args : ℕ → List WrittenArg → List BlockArg
resolved_args first [] = []
resolved_args first (a ∷ args) = record { value = record { 0 = first }; kind = a.kind; ty = a.ty } ∷ resolved_args (first + 1) args

-- a block whose first value has the number
abbrev pub resolved_block : Scope → ℕ → WrittenBlock → Block
resolved_block s first b = record {
  args = resolved_args first b.args;
  insts = resolved_insts s (first + length b.args) b.insts;
  terminator = resolved_inst s (first + length (defined_in b)) b.terminator;
}

abbrev pub resolved_blocks : Scope → ℕ → List WrittenBlock → List Block
resolved_blocks s first [] = []
resolved_blocks s first (b ∷ blocks) = resolved_block s first b ∷ resolved_blocks s (first + length (defined_in b)) blocks

-- a function without a body is external, whether or not it carries `[ossa]`
abbrev pub form_of : List WrittenToken → List WrittenBlock → Form
form_of words [] = External
form_of words (b ∷ blocks) = if list_any is_ossa words then Ossa else Lowered

abbrev pub scope_of : List Name → WrittenFunction → Scope
scope_of functions f = record { functions = functions; blocks = map (λ b. name_of (label_of b)) f.blocks; values = values_of f }

abbrev pub resolved_function : List Name → WrittenFunction → Function
resolved_function functions f = record {
  name = f.name.text;
  form = form_of f.attributes f.blocks;
  linkage = f.linkage;
  attributes = map name_of (filter is_kept f.attributes);
  signature = f.signature;
  blocks = resolved_blocks (scope_of functions f) 0 f.blocks;
}

abbrev pub resolved_field : WrittenField → Field
resolved_field f = record { name = f.name.text; storage = f.storage; ty = f.ty }

abbrev pub resolved_case : WrittenCase → Case
resolved_case c = record { name = c.name.text; payload = c.payload }

abbrev pub resolved_decl : WrittenDecl → Decl
resolved_decl (decl.Class name superclass fields) = kept.Class name.text (option_map name_of superclass) (map resolved_field fields)
resolved_decl (decl.Struct name fields) = kept.Struct name.text (map resolved_field fields)
resolved_decl (decl.Enum name cases) = kept.Enum name.text (map resolved_case cases)

abbrev pub resolved_entry : List Name → WrittenEntry → DeinitEntry
resolved_entry functions e = record { owner = e.owner; function = record { 0 = place_among functions e.function } }

abbrev pub resolved_vtable : List Name → WrittenVtable → Vtable
resolved_vtable functions t = record { class_name = t.class_name.text; entry = option_map (resolved_entry functions) t.entry }

unfoldable pub resolved : WrittenModule → Module
resolved w =
    let functions : List Name = map (λ f. name_of (function_name f)) (flat_map functions_of w.items) in
    record {
      stage = w.stage;
      imports = w.imports;
      decls = map resolved_decl (flat_map decls_of w.items);
      functions = map (resolved_function functions) (flat_map functions_of w.items);
      vtables = map (resolved_vtable functions) (flat_map vtables_of w.items);
    }
