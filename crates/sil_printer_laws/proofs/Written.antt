-- What the text of a printed module writes: the module's parts, with `%0`, `%1` and `bb0`, `bb1` for the names of values and blocks.
use Rattle.std.proofs.Common.{◌≡◌, ℕ, List, [], ◌∷◌, ◌++◌, map, Option, Some, None, codes, decimal}
use Rattle.std.specs.Prelude.{⊤, slice_get}
use Rattle.std.specs.List.{AllZip, enumerate_from}
use Rattle.std.specs.Option.{option_map}
use Rattle.sil_ast.specs.TypeName.{depth_of}
use Rattle.sil_ast.specs.declared.decl.Decl.{Decl}
use Rattle.sil_ast.specs.declared.function.Block.{Block}
use Rattle.sil_ast.specs.declared.function.BlockArg.{BlockArg}
use Rattle.sil_ast.specs.declared.function.Form.{Form}
use Rattle.sil_ast.specs.declared.function.Form.TheVariants.{Ossa, Lowered, External}
use Rattle.sil_ast.specs.declared.function.Function.{Function}
use Rattle.sil_ast.specs.declared.inst.Edge.{Edge}
use Rattle.sil_ast.specs.declared.inst.Inst.{Inst}
use Rattle.sil_ast.specs.declared.module.Module.{Module}
use Rattle.sil_ast.specs.declared.operands.Operand.{Operand}
use Rattle.sil_ast.specs.declared.place.FuncId.{FuncId}
use Rattle.sil_ast.specs.declared.place.ValueId.{ValueId}
use Rattle.sil_ast.specs.declared.type_name.TypeName.{TypeName}
use Rattle.sil_ast.specs.declared.vtable.DeinitEntry.{DeinitEntry}
use Rattle.sil_ast.specs.declared.vtable.Vtable.{Vtable}
use Rattle.sil_printer.specs.CanonicalInsts.{block_name}
use Rattle.sil_printer.specs.Words.{if_there}
use Rattle.sil_grammar_values.specs.Opened.{PartType}
use Rattle.sil_grammar_tree.specs.declared.written_tree.written_declarations.WrittenDecl.{WrittenDecl}
use Rattle.sil_grammar_tree.specs.declared.written_tree.written_declarations.WrittenToken.{WrittenToken}
use Rattle.sil_grammar_tree.specs.declared.written_tree.written_functions.WrittenArg.{WrittenArg}
use Rattle.sil_grammar_tree.specs.declared.written_tree.written_functions.WrittenBlock.{WrittenBlock}
use Rattle.sil_grammar_tree.specs.declared.written_tree.written_functions.WrittenFunction.{WrittenFunction}
use Rattle.sil_grammar_tree.specs.declared.written_tree.written_instructions.WrittenEdge.{WrittenEdge}
use Rattle.sil_grammar_tree.specs.declared.written_tree.written_instructions.WrittenInst.{WrittenInst}
use Rattle.sil_grammar_tree.specs.declared.written_tree.written_instructions.WrittenOperand.{WrittenOperand}
use Rattle.sil_grammar_tree.specs.declared.written_tree.written_module.WrittenEntry.{WrittenEntry}
use Rattle.sil_grammar_tree.specs.declared.written_tree.written_module.WrittenItem.TheVariants as item
use Rattle.sil_grammar_tree.specs.declared.written_tree.written_module.WrittenModule.{WrittenModule}
use Rattle.sil_grammar_tree.specs.declared.written_tree.written_module.WrittenVtable.{WrittenVtable}
use Rattle.sil_grammar_names.specs.NameScopes.Names.{Name, name_of}
use Rattle.sil_grammar_names.specs.NameResolution.Resolved.{resolved_decl}

-- the type, counted as deep as it is
pub record IsTypeWritten (t : TypeName) (w : PartType) : Type 0 where
  pub ty : w.ty ≡ t
  pub depth : w.depth ≡ depth_of t

-- the token names the value
abbrev pub IsValueNamed : ValueId → WrittenToken → Type 0
IsValueNamed v token = token.text ≡ decimal v.0

-- `%1 : $T` or `%1`
pub record IsOperandWritten (o : Operand) (w : WrittenOperand) : Type 0 where
  pub name : IsValueNamed o.value w.name
  pub ty : w.ty ≡ o.ty

pub record IsEdgeWritten (e : Edge) (w : WrittenEdge) : Type 0 where
  pub label : w.label.text ≡ block_name e.block.0
  pub args : AllZip IsOperandWritten e.args w.args
  pub case_of : w.case_of ≡ e.case_of

-- the name of a function of the module
abbrev pub name_in : List Function → FuncId → Name
name_in functions f = if_there [] (λ function. function.name) (slice_get functions f.0)

pub record IsInstWritten (functions : List Function) (i : Inst) (w : WrittenInst) : Type 0 where
  pub op : w.op ≡ i.op
  pub results : AllZip IsValueNamed i.results w.results
  pub operands : AllZip IsOperandWritten i.operands w.operands
  pub ty : w.ty ≡ i.ty
  pub signature : w.signature ≡ i.signature
  pub function : option_map name_of w.function ≡ option_map (name_in functions) i.function
  pub member : w.member ≡ i.member
  pub number : w.number ≡ i.number
  pub text : w.text ≡ i.text
  pub qualifier : w.qualifier.word ≡ i.qualifier
  pub lexical : w.lexical ≡ i.lexical
  pub var_decl : w.var_decl ≡ i.var_decl
  pub debug : w.debug ≡ i.debug
  pub edges : AllZip IsEdgeWritten i.edges w.edges

pub record IsArgWritten (a : BlockArg) (w : WrittenArg) : Type 0 where
  pub name : IsValueNamed a.value w.name
  pub kind : w.kind ≡ a.kind
  pub ty : w.ty ≡ a.ty

-- the k-th block of its function
pub record IsBlockWritten (functions : List Function) (k : ℕ) (b : Block) (w : WrittenBlock) : Type 0 where
  pub label : w.label.text ≡ block_name k
  pub args : AllZip IsArgWritten b.args w.args
  pub insts : AllZip (IsInstWritten functions) b.insts w.insts
  pub terminator : IsInstWritten functions b.terminator w.terminator

-- the blocks from the k-th on
abbrev pub AreBlocksWritten : List Function → ℕ → List Block → List WrittenBlock → Type 0
AreBlocksWritten functions k blocks ws = AllZip (λ (at, b) w. IsBlockWritten functions at b w) (enumerate_from k blocks) ws

-- the word of a form stands behind the attributes
abbrev pub form_words : Form → List Name
form_words Ossa = codes "ossa" ∷ []
form_words Lowered = []
form_words External = []

pub record IsFunctionWritten (functions : List Function) (f : Function) (w : WrittenFunction) : Type 0 where
  pub name : w.name.text ≡ f.name
  pub linkage : w.linkage ≡ f.linkage
  pub attributes : map name_of w.attributes ≡ f.attributes ++ form_words f.form
  pub signature : w.signature ≡ f.signature
  pub blocks : AreBlocksWritten functions 0 f.blocks w.blocks

-- a declaration has no numbers
abbrev pub IsDeclWritten : Decl → WrittenDecl → Type 0
IsDeclWritten d w = resolved_decl w ≡ d

pub record IsEntryWritten (functions : List Function) (e : DeinitEntry) (w : WrittenEntry) : Type 0 where
  pub owner : w.owner ≡ e.owner
  pub function : w.function.text ≡ name_in functions e.function

-- both are there, and R holds of them, or neither is
abbrev pub AreBoth : {A B : Type 0} → (A → B → Type 0) → Option A → Option B → Type 0
AreBoth R None None = ⊤
AreBoth R None (Some y) = ⊥
AreBoth R (Some x) None = ⊥
AreBoth R (Some x) (Some y) = R x y

pub record IsVtableWritten (functions : List Function) (v : Vtable) (w : WrittenVtable) : Type 0 where
  pub name : w.class_name.text ≡ v.class_name
  pub entry : AreBoth (IsEntryWritten functions) v.entry w.entry

-- the declarations, then the functions, then the vtables
pub record IsModuleWritten (m : Module) (w : WrittenModule) : Type 0 where
  pub stage : w.stage ≡ m.stage
  pub imports : w.imports ≡ m.imports
  pub decls : List WrittenDecl
  pub functions : List WrittenFunction
  pub vtables : List WrittenVtable
  pub items : w.items ≡ map item.Decl decls ++ map item.Function functions ++ map item.Vtable vtables
  pub decls_written : AllZip IsDeclWritten m.decls decls
  pub functions_written : AllZip (IsFunctionWritten m.functions) m.functions functions
  pub vtables_written : AllZip (IsVtableWritten m.functions) m.vtables vtables
