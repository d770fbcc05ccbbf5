-- What each part of a text stands for, where nothing in it is at fault: each predicate asks for just what numbered form does.
use Rattle.std.proofs.Common.{◌≡◌, ℕ, ◌≤◌, List, [], ◌∷◌, length, map, IfSome, IsTrue, IsFalse, flat_map, ◌+◌}
use Rattle.std.specs.List.{list_all}
use Rattle.std.specs.Prelude.{⊤}
use Rattle.sil_ast.specs.TypeName.{depth_of, largest}
use Rattle.sil_ast.specs.declared.debug.Debug.{Debug}
use Rattle.sil_ast.specs.declared.decl.Decl.{Decl}
use Rattle.sil_ast.specs.declared.decl.Storage.TheVariants.{Strong}
use Rattle.sil_ast.specs.declared.inst.Edge.{Edge}
use Rattle.sil_ast.specs.declared.inst.Inst.{Inst}
use Rattle.sil_ast.specs.declared.operands.Operand.{Operand}
use Rattle.sil_ast.specs.declared.signature.Signature.{Signature}
use Rattle.sil_ast.specs.declared.type_name.TypeName.{TypeName}
use Rattle.sil_grammar_tables.specs.declared.grammar.Nonterminal.{Nonterminal}
use Rattle.sil_grammar_tables.specs.declared.grammar.Nonterminal.TheVariants as n
use Rattle.sil_grammar_tables.specs.declared.grammar.Symbol.{Symbol}
use Rattle.sil_grammar_tables.specs.declared.grammar.Symbol.TheVariants.{Read, Part}
use Rattle.sil_grammar_tables.specs.declared.grammar.Terminal.{Terminal}
use Rattle.sil_grammar_tables.specs.declared.grammar.Terminal.TheVariants as t
use Rattle.sil_grammar_tree.specs.declared.written_tree.written_declarations.WrittenCase.{WrittenCase}
use Rattle.sil_grammar_tree.specs.declared.written_tree.written_declarations.WrittenField.{WrittenField}
use Rattle.sil_grammar_tree.specs.declared.written_tree.written_declarations.WrittenToken.{WrittenToken}
use Rattle.sil_grammar_tree.specs.declared.written_tree.written_functions.WrittenArg.{WrittenArg}
use Rattle.sil_grammar_tree.specs.declared.written_tree.written_functions.WrittenBlock.{WrittenBlock}
use Rattle.sil_grammar_tree.specs.declared.written_tree.written_functions.WrittenFunction.{WrittenFunction}
use Rattle.sil_grammar_tree.specs.declared.written_tree.written_instructions.WrittenEdge.{WrittenEdge}
use Rattle.sil_grammar_tree.specs.declared.written_tree.written_instructions.WrittenInst.{WrittenInst}
use Rattle.sil_grammar_tree.specs.declared.written_tree.written_instructions.WrittenOperand.{WrittenOperand}
use Rattle.sil_grammar_tree.specs.declared.written_tree.written_module.WrittenEntry.{WrittenEntry}
use Rattle.sil_grammar_tree.specs.declared.written_tree.written_module.WrittenItem.{WrittenItem}
use Rattle.sil_grammar_tree.specs.declared.written_tree.written_module.WrittenItem.TheVariants as item
use Rattle.sil_grammar_tree.specs.declared.written_tree.written_module.WrittenModule.{WrittenModule}
use Rattle.sil_grammar_tree.specs.declared.written_tree.written_module.WrittenVtable.{WrittenVtable}
use Rattle.sil_grammar_values.specs.Opened.{PartGivens, PartParams, PartType, PartTypes, PartValue, module_value}
use Rattle.sil_grammar_values.specs.Types.{tailed}
use Rattle.sil_grammar_values.specs.inner.Parts.{part}
use Rattle.sil_grammar_tree.specs.WrittenTree.Places.{attribute_places, decl_names, function_names, mnemonics_of, values_of_block}
use Rattle.sil_grammar_values.specs.Values.{token_of, items_of, item_of, fields_of, field_of, field_before, cases_of, type_of, payload_of, types_of, tokens_of, params_of}
use Rattle.sil_grammar_values.specs.Values.{param_before, givens_of, given_before, starred, signature_of, blocks_of, block_of, args_of, arg_of, insts_of, terminator_of}
use Rattle.sil_grammar_values.specs.Values.{inst_of, operands_of, operand_of, edges_of, edge_of, member_of, qualifier_of, debug_of, entry_of, no_debug, superclass_of}
use Rattle.sil_grammar_names.specs.NameResolution.Resolved.{Scope, resolved_decl, resolved_edge, resolved_inst, resolved_operand}
use Rattle.numbered_form.specs.Lists.{Each, is_empty}
use Rattle.numbered_form.specs.inner.Fields.{HasStrongFields}
use Rattle.numbered_form.specs.inner.Limits.{IsDeclInLimits, IsEdgeInLimits, IsInstInLimits, IsSignatureInLimits}
use Rattle.numbered_form.specs.inner.Literals.{HasLiterals}
use Rattle.numbered_form.specs.Names.{IsDeclSpelled, IsEdgeSpelled, IsInstSpelled, IsMemberSpelled, IsWord, is_at_name, is_quotable}
use Rattle.instruction_table.specs.Forms.{is_terminator}
use Rattle.numbered_form.specs.inner.Parts.{HasItsParts, are_cases, is_branch, is_plain_or_init, is_plain_or_take, is_typed}
use Rattle.numbered_form.specs.inner.Types.{HasDeclTypes, HasEdgeTypes, HasInstTypes, HasOperandType, HasParamType, HasSignatureTypes, IsGivenWritten, IsPlacedType, IsPlainType, is_plain_type, same}
use Rattle.sil_grammar.specs.NumberedReadingLaws.inner.Leaves.{IsTextOf}

-- types

pub record IsGoodType (t : PartType) : Type 0 where
  pub written : IsTrue (is_plain_type t.ty)
  pub deep : depth_of t.ty ≤ t.depth
  pub limit : t.depth ≤ 32

pub record AreGoodTypes (l : PartTypes) : Type 0 where
  pub written : IsTrue (list_all same (map is_plain_type l.types))
  pub deep : largest (map depth_of l.types) ≤ l.depth
  pub limit : l.depth ≤ 32
  pub counted : length l.types ≡ length l.firsts

pub record AreGoodParams (l : PartParams) : Type 0 where
  pub types : Each HasParamType l.params
  pub counted : length l.params ≡ length l.firsts

pub record AreGoodGivens (l : PartGivens) : Type 0 where
  pub types : Each IsGivenWritten l.givens
  pub counted : length l.givens ≡ length l.firsts

pub record IsGoodSignature (s : Signature) : Type 0 where
  pub types : HasSignatureTypes s
  pub limits : IsSignatureInLimits s

-- declarations

pub record IsGoodField (f : WrittenField) : Type 0 where
  pub name : IsWord f.name.text
  pub ty : IsPlainType f.ty

abbrev pub IsStrongField : WrittenField → Type 0
IsStrongField f = f.storage ≡ Strong

pub record IsGoodCase (c : WrittenCase) : Type 0 where
  pub name : IsWord c.name.text
  pub payload : IfSome c.payload IsPlainType

pub record IsGoodDecl (d : Decl) : Type 0 where
  pub spelled : IsDeclSpelled d
  pub strong : HasStrongFields d
  pub types : HasDeclTypes d
  pub limits : IsDeclInLimits d

-- instructions

pub record IsGoodOperand (o : Operand) : Type 0 where
  pub typed : IsTrue (is_typed o)
  pub ty : HasOperandType o

pub record IsGoodEdge (e : Edge) : Type 0 where
  pub types : HasEdgeTypes e
  pub spelled : IsEdgeSpelled e
  pub limits : IsEdgeInLimits e

pub record IsGoodInst (i : Inst) : Type 0 where
  pub parts : HasItsParts i
  pub literals : HasLiterals i
  pub spelled : IsInstSpelled i
  pub types : HasInstTypes i
  pub limits : IsInstInLimits i

-- wherever the instruction stands
abbrev pub IsGoodAnywhere : WrittenInst → Type 0
IsGoodAnywhere w = (s : Scope) (first : ℕ) → IsGoodInst (resolved_inst s first w)

-- a row without its results
pub record IsGoodRow (w : WrittenInst) : Type 0 where
  pub goes_on : IsFalse (is_terminator w.op)
  pub no_results : w.results ≡ []
  pub good : IsGoodAnywhere w

pub record IsGoodInside (w : WrittenInst) : Type 0 where
  pub goes_on : IsFalse (is_terminator w.op)
  pub good : IsGoodAnywhere w

pub record IsGoodEnd (w : WrittenInst) : Type 0 where
  pub ends : IsTrue (is_terminator w.op)
  pub no_results : w.results ≡ []
  pub good : IsGoodAnywhere w

abbrev pub AreGoodOperands : List WrittenOperand → Type 0
AreGoodOperands os = (s : Scope) → Each IsGoodOperand (map (resolved_operand s) os)

-- an operand that may be left out
pub record AreEnumOperands (os : List WrittenOperand) : Type 0 where
  pub good : AreGoodOperands os
  pub few : length os ≤ 1

pub record IsGoodBranch (e : WrittenEdge) : Type 0 where
  pub good : (s : Scope) → IsGoodEdge (resolved_edge s e)
  pub branch : (s : Scope) → IsTrue (is_branch (resolved_edge s e))

pub record AreGoodCases (es : List WrittenEdge) : Type 0 where
  pub good : (s : Scope) → Each IsGoodEdge (map (resolved_edge s) es)
  pub cases : (s : Scope) → IsTrue (are_cases (map (resolved_edge s) es))

pub record AreGoodSwitch (es : List WrittenEdge) : Type 0 where
  pub good : AreGoodCases es
  pub some : (s : Scope) → IsFalse (is_empty (map (resolved_edge s) es))

abbrev pub IsGoodDebug : Debug → Type 0
IsGoodDebug d = IfSome d.name (λ text. IsTrue (is_quotable text)) × IfSome d.argno (λ n. n ≤ 65535)

pub nothing_shown : IsGoodDebug no_debug
nothing_shown = (tt, tt)

-- functions

abbrev pub IsGoodArg : WrittenArg → Type 0
IsGoodArg a = IsPlacedType a.ty

pub record IsGoodBlock (b : WrittenBlock) : Type 0 where
  pub args : Each IsGoodArg b.args
  pub few : length b.args ≤ 64
  pub insts : Each IsGoodInside b.insts
  pub terminator : IsGoodEnd b.terminator

abbrev pub IsWordToken : WrittenToken → Type 0
IsWordToken token = IsWord token.text

pub record IsGoodFunction (f : WrittenFunction) : Type 0 where
  pub name : IsTrue (is_at_name f.name.text)
  pub attributes : Each IsWordToken f.attributes
  pub signature : IsGoodSignature f.signature
  pub blocks : Each IsGoodBlock f.blocks
  pub attribute_count : length (attribute_places f.attributes) ≤ 64
  pub block_count : length f.blocks ≤ 512
  pub inst_count : length (flat_map mnemonics_of f.blocks) ≤ 4096
  pub value_count : length (flat_map values_of_block f.blocks) ≤ 1024

abbrev pub IsGoodEntry : WrittenEntry → Type 0
IsGoodEntry e = IsWord e.owner

pub record IsGoodVtable (t : WrittenVtable) : Type 0 where
  pub name : IsWord t.class_name.text
  pub entry : IfSome t.entry IsGoodEntry

-- modules

abbrev pub IsGoodItem : WrittenItem → Type 0
IsGoodItem (item.Decl d) = IsGoodDecl (resolved_decl d)
IsGoodItem (item.Function f) = IsGoodFunction f
IsGoodItem (item.Vtable t) = IsGoodVtable t

pub record IsGoodModule (w : WrittenModule) : Type 0 where
  pub items : Each IsGoodItem w.items
  pub declarations : length (flat_map decl_names w.items) ≤ 1024
  pub functions : length (flat_map function_names w.items) ≤ 1024

-- what each part of the grammar stands for

-- what may be a member goes before good members
abbrev pub IsGoodBefore : PartValue → Type 0
IsGoodBefore x = (others : List WrittenField) → Each IsGoodField others → Each IsGoodField (field_before x others)

abbrev pub IsStrongBefore : PartValue → Type 0
IsStrongBefore x = (others : List WrittenField) → Each IsStrongField others → Each IsStrongField (field_before x others)

-- what may go on with the name of a type
abbrev pub IsGoodTail : PartValue → Type 0
IsGoodTail x = (token : WrittenToken) → IsWord token.text → IsGoodType (tailed token x)

unfoldable pub IsGoodPart : Nonterminal → PartValue → Type 0
IsGoodPart n.Module x = (w : WrittenModule) → x ≡ module_value w → IsGoodModule w
IsGoodPart n.Items x = Each IsGoodItem (items_of x)
IsGoodPart n.Item x = IsGoodItem (item_of x)
IsGoodPart n.Superclass x = IfSome (superclass_of x) IsWordToken
IsGoodPart n.Members x = Each IsGoodField (fields_of x)
IsGoodPart n.Member x = IsGoodBefore x
IsGoodPart n.Modified x = IsGoodBefore x
IsGoodPart n.Variable x = IsGoodBefore x
IsGoodPart n.Binding x = IsGoodField (field_of x) × IsGoodBefore x × IsStrongBefore x
IsGoodPart n.Fields x = Each IsGoodField (fields_of x) × Each IsStrongField (fields_of x)
IsGoodPart n.Field x = IsGoodBefore x × IsStrongBefore x
IsGoodPart n.Cases x = Each IsGoodCase (cases_of x)
IsGoodPart n.Payload x = IfSome (payload_of x) IsPlainType
IsGoodPart n.Type x = IsGoodType (type_of x)
IsGoodPart n.OpenType x = IsGoodType (type_of x)
IsGoodPart n.Base x = IsGoodType (type_of x)
IsGoodPart n.BuiltinTail x = IsGoodTail x
IsGoodPart n.OptionalTail x = IsGoodTail x
IsGoodPart n.Width x = IsGoodTail x
IsGoodPart n.Types x = AreGoodTypes (types_of x)
IsGoodPart n.MoreTypes x = AreGoodTypes (types_of x)
IsGoodPart n.Attributes x = Each IsWordToken (tokens_of x)
IsGoodPart n.Body x = Each IsGoodBlock (blocks_of x)
IsGoodPart n.FunctionType x = IsGoodSignature (signature_of x)
IsGoodPart n.Params x = AreGoodParams (params_of x)
IsGoodPart n.MoreParams x = AreGoodParams (params_of x)
IsGoodPart n.Param x = (others : PartParams) → AreGoodParams others → AreGoodParams (param_before x others)
IsGoodPart n.Results x = AreGoodGivens (givens_of x)
IsGoodPart n.ResultsInside x = AreGoodGivens (givens_of x)
IsGoodPart n.MoreGivens x = AreGoodGivens (givens_of x)
IsGoodPart n.Given x = (others : PartGivens) → AreGoodGivens others → AreGoodGivens (given_before x others)
IsGoodPart n.Block x = IsGoodBlock (block_of x)
IsGoodPart n.Blocks x = Each IsGoodBlock (blocks_of x)
IsGoodPart n.BlockArgs x = Each IsGoodArg (args_of x)
IsGoodPart n.MoreBlockArgs x = Each IsGoodArg (args_of x)
IsGoodPart n.BlockArg x = IsGoodArg (arg_of x)
IsGoodPart n.Star x = (t : TypeName) → IsPlainType t → IsPlacedType (starred x t)
IsGoodPart n.Code x = Each IsGoodInside (insts_of x) × IsGoodEnd (terminator_of x)
IsGoodPart n.Inst x = IsGoodInside (inst_of x)
IsGoodPart n.Row x = IsGoodRow (inst_of x)
IsGoodPart n.Terminator x = IsGoodEnd (inst_of x)
IsGoodPart n.Operand x = (s : Scope) → IsGoodOperand (resolved_operand s (operand_of x))
IsGoodPart n.Operands x = AreGoodOperands (operands_of x)
IsGoodPart n.MoreOperands x = AreGoodOperands (operands_of x)
IsGoodPart n.EdgeArgs x = AreGoodOperands (operands_of x)
IsGoodPart n.EnumOperand x = AreEnumOperands (operands_of x)
IsGoodPart n.Edge x = IsGoodBranch (edge_of x)
IsGoodPart n.SwitchPart x = AreGoodSwitch (edges_of x)
IsGoodPart n.SwitchMore x = AreGoodCases (edges_of x)
IsGoodPart n.EnumElement x = IsMemberSpelled (member_of x)
IsGoodPart n.MemberName x = IsMemberSpelled (member_of x)
IsGoodPart n.TakeFlag x = IsTrue (is_plain_or_take (qualifier_of x).word)
IsGoodPart n.InitFlag x = IsTrue (is_plain_or_init (qualifier_of x).word)
IsGoodPart n.InitWord x = IsTrue (is_plain_or_init (qualifier_of x).word)
IsGoodPart n.Debug x = IsGoodDebug (debug_of x)
IsGoodPart n.DebugPart x = IsGoodDebug (debug_of x)
IsGoodPart n.DebugAfterBinding x = IsGoodDebug (debug_of x)
IsGoodPart n.DebugNamePart x = IsGoodDebug (debug_of x)
IsGoodPart n.DebugAfterName x = IsGoodDebug (debug_of x)
IsGoodPart n.DebugNumberPart x = IsGoodDebug (debug_of x)
IsGoodPart n.DebugAfterNumber x = IsGoodDebug (debug_of x)
IsGoodPart n.DebugDerefPart x = IsGoodDebug (debug_of x)
IsGoodPart n.VtableEntry x = IfSome (entry_of x) IsGoodEntry
IsGoodPart _ x = ⊤

unfoldable pub IsGoodToken : Terminal → List ℕ → Type 0
IsGoodToken t.AnyWord text = IsWord text
IsGoodToken t.TypeWord text = IsWord text
IsGoodToken t.AnyAt text = IsTrue (is_at_name text)
IsGoodToken t.AnyText text = IsTrue (is_quotable text)
IsGoodToken (t.Just class) text = IsTextOf class text
IsGoodToken _ text = ⊤

abbrev pub IsGood : Symbol → PartValue → Type 0
IsGood (Read terminal) x = IsGoodToken terminal (token_of x).text
IsGood (Part part) x = IsGoodPart part x

-- the parts from the i-th on are good, one for each symbol
abbrev pub AreGoodFrom : ℕ → List Symbol → List PartValue → Type 0
AreGoodFrom i [] parts = ⊤
AreGoodFrom i (s ∷ ss) parts = IsGood s (part i parts) × AreGoodFrom (i + 1) ss parts
