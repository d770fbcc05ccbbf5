-- What the parts of a text come to in the replay: a production by what the parts of its body come to.
use Rattle.std.specs.Prelude.{ℕ, List, [], ◌∷◌, Bool, true, false, Some, None}
use Rattle.sil_ast.specs.declared.debug.Binding.TheVariants as debugged
use Rattle.sil_ast.specs.declared.decl.Storage.TheVariants as storage
use Rattle.sil_ast.specs.declared.function.ArgKind.TheVariants as kind
use Rattle.sil_ast.specs.declared.function.Linkage.TheVariants as linkage
use Rattle.sil_ast.specs.declared.inst.Qualifier.{Qualifier}
use Rattle.sil_ast.specs.declared.inst.Qualifier.TheVariants as qualifier
use Rattle.sil_ast.specs.declared.module.Stage.TheVariants as stage
use Rattle.sil_ast.specs.declared.signature.Convention.TheVariants as convention
use Rattle.sil_ast.specs.declared.signature.Given.{Given}
use Rattle.sil_ast.specs.declared.signature.Passing.TheVariants as passing
use Rattle.sil_ast.specs.declared.signature.Passing.{Passing}
use Rattle.sil_ast.specs.declared.type_name.TypeName.TheVariants as ty
use Rattle.sil_grammar_tables.specs.declared.grammar.Production.{Production}
use Rattle.sil_grammar_tables.specs.declared.grammar.Production.TheVariants as p
use Rattle.sil_grammar_tree.specs.WrittenNumbers.Numbers.{small_of}
use Rattle.sil_grammar_values.specs.declared.value.Value.{Value}
use Rattle.sil_grammar_values.specs.declared.value.Value.TheVariants as v
use Rattle.sil_grammar_tree.specs.declared.written_tree.written_declarations.WrittenDecl.TheVariants as decl
use Rattle.sil_grammar_tree.specs.declared.written_tree.written_module.WrittenItem.TheVariants as item
use Rattle.sil_grammar_values.specs.Imports.{with_import}
use Rattle.sil_grammar_values.specs.inner.Parts.{part, place_at, text_at}
use Rattle.sil_grammar_values.specs.inner.RowMeaning.{row}
use Rattle.sil_grammar_values.specs.Types.{in_parens, with_questions, named_type, one_deeper, one_token, tailed, type_before}
use Rattle.sil_grammar_values.specs.Values.{token_of, superclass_of, stage_of, imports_of, items_of, item_of, fields_of, field_of, field_before, cases_of}
use Rattle.sil_grammar_values.specs.Values.{type_of}
use Rattle.sil_grammar_values.specs.Values.{payload_of, types_of, questions_of, linkage_of, tokens_of, convention_of, params_of, param_before}
use Rattle.sil_grammar_values.specs.Values.{givens_of, given_before, signature_of, blocks_of, block_of, args_of, arg_of, ownership_of, starred}
use Rattle.sil_grammar_values.specs.Values.{insts_of, terminator_of, inst_of, operands_of, operand_of, edges_of, member_of, flags_of, debug_of}
use Rattle.sil_grammar_values.specs.Values.{entry_of, no_debug, no_givens, no_params, no_qualifier, no_types}

-- `var f: T`
abbrev pub binding : List Value → Value
binding parts = v.Field (record { name = token_of (part 1 parts); storage = storage.Strong; ty = (type_of (part 3 parts)).ty })

abbrev pub param : Passing → List Value → Value
param how parts = v.Param (record { passing = how; ty = (type_of (part 1 parts)).ty }) (place_at 0 parts)

-- a result whose type is this part
abbrev pub given_with : Bool → Bool → ℕ → List Value → Given
given_with owned out i parts = record { owned = owned; out = out; ty = (type_of (part i parts)).ty }

abbrev pub member : List Value → Value
member parts = v.Member (record { owner = text_at 1 parts; name = text_at 3 parts })

abbrev pub flags : Bool → Bool → Value
flags lexical var_decl = v.Flags (record { lexical = lexical; var_decl = var_decl })

abbrev pub qualified : Qualifier → ℕ → List Value → Value
qualified word i parts = v.Qualifier (record { word = word; place = place_at i parts })

unfoldable pub meaning : Production → List Value → Value
-- modules and their items
meaning p.WholeModule parts = v.Module (record { stage = stage_of (part 0 parts); imports = imports_of (part 1 parts); items = items_of (part 2 parts) })
meaning p.StageSome parts = part 1 parts
meaning p.StageNone parts = v.Stage stage.Canonical
meaning p.Raw parts = v.Stage stage.Raw
meaning p.Canonical parts = v.Stage stage.Canonical
meaning p.ImportsMore parts = v.Imports (with_import (text_at 1 parts) (imports_of (part 2 parts)))
meaning p.ImportsEnd parts = v.Imports (record { builtin = false; swift = false })
meaning p.ItemsMore parts = v.Items (item_of (part 0 parts) ∷ items_of (part 1 parts))
meaning p.ItemsEnd parts = v.Items []
meaning p.FinalClass parts = v.Item (item.Decl (decl.Class (token_of (part 2 parts)) (superclass_of (part 3 parts)) (fields_of (part 5 parts))))
meaning p.PlainClass parts = v.Item (item.Decl (decl.Class (token_of (part 1 parts)) (superclass_of (part 2 parts)) (fields_of (part 4 parts))))
meaning p.SuperclassSome parts = v.Token (token_of (part 1 parts))
meaning p.StructItem parts = v.Item (item.Decl (decl.Struct (token_of (part 1 parts)) (fields_of (part 3 parts))))
meaning p.EnumItem parts = v.Item (item.Decl (decl.Enum (token_of (part 1 parts)) (cases_of (part 3 parts))))
meaning p.FunctionItem parts = v.Item (item.Function (record {
  name = token_of (part 3 parts);
  linkage = linkage_of (part 1 parts);
  attributes = tokens_of (part 2 parts);
  signature = signature_of (part 6 parts);
  blocks = blocks_of (part 7 parts);
}))
meaning p.VtableItem parts = v.Item (item.Vtable (record { class_name = token_of (part 1 parts); entry = entry_of (part 3 parts) }))
-- members; `final`, `@_hasStorage`, accessors, `deinit` and `init()` are dropped
meaning p.MembersMore parts = v.Fields (field_before (part 0 parts) (fields_of (part 1 parts)))
meaning p.MembersEnd parts = v.Fields []
meaning p.StoredMember parts = part 1 parts
meaning p.FinalMember parts = part 1 parts
meaning p.PlainMember parts = part 0 parts
meaning p.ModifiedStored parts = part 1 parts
meaning p.ModifiedFinal parts = part 1 parts
meaning p.ModifiedVariable parts = part 0 parts
meaning p.WeakVariable parts = v.Field (record (field_of (part 1 parts)) { storage = storage.Weak })
meaning p.UnownedVariable parts = v.Field (record (field_of (part 1 parts)) { storage = storage.Unowned })
meaning p.StrongVariable parts = part 0 parts
meaning p.VarBinding parts = binding parts
meaning p.LetBinding parts = binding parts
meaning p.FieldsMore parts = v.Fields (field_before (part 0 parts) (fields_of (part 1 parts)))
meaning p.FieldsEnd parts = v.Fields []
meaning p.StoredField parts = part 1 parts
meaning p.PlainField parts = part 0 parts
meaning p.CasesMore parts = v.Cases (record { name = token_of (part 1 parts); payload = payload_of (part 2 parts) } ∷ cases_of (part 3 parts))
meaning p.CasesEnd parts = v.Cases []
meaning p.PayloadSome parts = v.Type (in_parens (place_at 0 parts) (type_before (type_of (part 1 parts)) (types_of (part 2 parts))) (place_at 3 parts))
-- types
meaning p.BareType parts = part 0 parts
meaning p.ParenType parts = v.Type (with_questions (in_parens (place_at 0 parts) (types_of (part 1 parts)) (place_at 2 parts)) (questions_of (part 3 parts)))
meaning p.BaseOpen parts = v.Type (with_questions (type_of (part 0 parts)) (questions_of (part 1 parts)))
meaning p.WeakOpen parts = v.Type (one_deeper (type_of (part 1 parts)).depth
    (ty.Weak (type_of (part 1 parts)).ty) (place_at 0 parts) (type_of (part 1 parts)).last)
meaning p.UnownedOpen parts = v.Type (one_deeper (type_of (part 1 parts)).depth
    (ty.Unowned (type_of (part 1 parts)).ty) (place_at 0 parts) (type_of (part 1 parts)).last)
meaning p.BuiltinBase parts = v.Type (tailed (token_of (part 0 parts)) (part 1 parts))
meaning p.OptionalBase parts = v.Type (tailed (token_of (part 0 parts)) (part 1 parts))
meaning p.NamedBase parts = v.Type (named_type (token_of (part 0 parts)))
meaning p.BuiltinInt parts = part 1 parts
meaning p.OptionalOf parts = v.Type (one_deeper (type_of (part 1 parts)).depth (ty.Optional (type_of (part 1 parts)).ty) (place_at 0 parts) (place_at 2 parts))
meaning p.Width1 parts = v.Type (one_token (ty.Int 1) (place_at 0 parts))
meaning p.Width8 parts = v.Type (one_token (ty.Int 8) (place_at 0 parts))
meaning p.Width16 parts = v.Type (one_token (ty.Int 16) (place_at 0 parts))
meaning p.Width32 parts = v.Type (one_token (ty.Int 32) (place_at 0 parts))
meaning p.Width64 parts = v.Type (one_token (ty.Int 64) (place_at 0 parts))
meaning p.QuestionsMore parts = v.Questions (place_at 0 parts ∷ questions_of (part 1 parts))
meaning p.QuestionsEnd parts = v.Questions []
meaning p.TypesSome parts = v.Types (type_before (type_of (part 0 parts)) (types_of (part 1 parts)))
meaning p.TypesNone parts = v.Types no_types
meaning p.MoreTypesMore parts = v.Types (type_before (type_of (part 1 parts)) (types_of (part 2 parts)))
meaning p.MoreTypesEnd parts = v.Types no_types
-- functions
meaning p.LinkageHidden parts = v.Linkage linkage.Hidden
meaning p.LinkagePrivate parts = v.Linkage linkage.Private
meaning p.LinkageShared parts = v.Linkage linkage.Shared
meaning p.LinkagePublic parts = v.Linkage linkage.Public
meaning p.LinkagePlain parts = v.Linkage linkage.Plain
meaning p.AttributesMore parts = v.Tokens (token_of (part 1 parts) ∷ tokens_of (part 3 parts))
meaning p.AttributesEnd parts = v.Tokens []
meaning p.BodySome parts = v.Blocks (block_of (part 1 parts) ∷ blocks_of (part 2 parts))
meaning p.BodyNone parts = v.Blocks []
meaning p.WholeFunctionType parts = v.Signature
    (record { convention = convention_of (part 2 parts); params = (params_of (part 5 parts)).params; results = (givens_of (part 8 parts)).givens })
meaning p.Thin parts = v.Convention convention.Thin
meaning p.Method parts = v.Convention convention.Method
meaning p.ParamsSome parts = v.Params (param_before (part 0 parts) (params_of (part 1 parts)))
meaning p.ParamsNone parts = v.Params no_params
meaning p.MoreParamsMore parts = v.Params (param_before (part 1 parts) (params_of (part 2 parts)))
meaning p.MoreParamsEnd parts = v.Params no_params
meaning p.ParamOwned parts = param passing.Owned parts
meaning p.ParamGuaranteed parts = param passing.Guaranteed parts
meaning p.ParamInout parts = param passing.Inout parts
meaning p.ParamIn parts = param passing.In parts
meaning p.ParamInGuaranteed parts = param passing.InGuaranteed parts
meaning p.ParamPlain parts = v.Param (record { passing = passing.Plain; ty = (type_of (part 0 parts)).ty }) (type_of (part 0 parts)).first
meaning p.ResultList parts = v.Givens (givens_of (part 1 parts))
meaning p.ResultOwned parts = v.Givens (record { givens = given_with true false 1 parts ∷ []; firsts = place_at 0 parts ∷ [] })
meaning p.ResultOut parts = v.Givens (record { givens = given_with false true 1 parts ∷ []; firsts = place_at 0 parts ∷ [] })
meaning p.ResultPlain parts = v.Givens (record { givens = given_with false false 0 parts ∷ []; firsts = (type_of (part 0 parts)).first ∷ [] })
meaning p.InsideSome parts = v.Givens (given_before (part 0 parts) (givens_of (part 1 parts)))
meaning p.InsideNone parts = v.Givens no_givens
meaning p.MoreGivensMore parts = v.Givens (given_before (part 1 parts) (givens_of (part 2 parts)))
meaning p.MoreGivensEnd parts = v.Givens no_givens
meaning p.GivenOwned parts = v.Given (given_with true false 1 parts) (place_at 0 parts)
meaning p.GivenOut parts = v.Given (given_with false true 1 parts) (place_at 0 parts)
meaning p.GivenPlain parts = v.Given (given_with false false 0 parts) (type_of (part 0 parts)).first
-- blocks
meaning p.WholeBlock parts = v.Block (record {
  label = token_of (part 0 parts);
  args = args_of (part 1 parts);
  insts = insts_of (part 3 parts);
  terminator = terminator_of (part 3 parts);
})
meaning p.BlocksMore parts = v.Blocks (block_of (part 0 parts) ∷ blocks_of (part 1 parts))
meaning p.BlocksEnd parts = v.Blocks []
meaning p.BlockArgsSome parts = v.Args (arg_of (part 1 parts) ∷ args_of (part 2 parts))
meaning p.BlockArgsNone parts = v.Args []
meaning p.MoreBlockArgsMore parts = v.Args (arg_of (part 1 parts) ∷ args_of (part 2 parts))
meaning p.MoreBlockArgsEnd parts = v.Args []
meaning p.WholeBlockArg parts = v.Arg (record
    { name = token_of (part 0 parts); kind = ownership_of (part 2 parts); ty = starred (part 4 parts) (type_of (part 5 parts)).ty })
meaning p.OwnershipOwned parts = v.Ownership kind.Owned
meaning p.OwnershipGuaranteed parts = v.Ownership kind.Guaranteed
meaning p.OwnershipNone parts = v.Ownership kind.Plain
meaning p.StarSome parts = v.Star
-- instructions; `%1 =` and `(%1) =` are the same, and so are `() =` and nothing
meaning p.CodeInst parts = v.Code (inst_of (part 0 parts) ∷ insts_of (part 1 parts)) (terminator_of (part 1 parts))
meaning p.CodeEnd parts = v.Code [] (inst_of (part 0 parts))
meaning p.InstOneName parts = v.Inst (record (inst_of (part 2 parts)) { results = token_of (part 0 parts) ∷ [] })
meaning p.InstNames parts = v.Inst (record (inst_of (part 4 parts)) { results = tokens_of (part 1 parts) })
meaning p.InstUnnamed parts = part 0 parts
meaning p.NamesSome parts = v.Tokens (token_of (part 0 parts) ∷ tokens_of (part 1 parts))
meaning p.NamesNone parts = v.Tokens []
meaning p.MoreNamesMore parts = v.Tokens (token_of (part 1 parts) ∷ tokens_of (part 2 parts))
meaning p.MoreNamesEnd parts = v.Tokens []
-- the row of an instruction
meaning (p.Row o) parts = v.Inst (row o parts)
-- parts of rows
meaning p.WholeOperand parts = v.Operand (record { name = token_of (part 0 parts); ty = Some (starred (part 3 parts) (type_of (part 4 parts)).ty) })
meaning p.OperandsSome parts = v.Operands (operand_of (part 0 parts) ∷ operands_of (part 1 parts))
meaning p.OperandsNone parts = v.Operands []
meaning p.MoreOperandsMore parts = v.Operands (operand_of (part 1 parts) ∷ operands_of (part 2 parts))
meaning p.MoreOperandsEnd parts = v.Operands []
meaning p.BareNamesSome parts = v.Tokens (token_of (part 0 parts) ∷ tokens_of (part 1 parts))
meaning p.BareNamesNone parts = v.Tokens []
meaning p.WholeEdge parts = v.Edge (record { label = token_of (part 0 parts); args = operands_of (part 1 parts); case_of = None })
meaning p.EdgeArgsSome parts = v.Operands (operand_of (part 1 parts) ∷ operands_of (part 2 parts))
meaning p.EdgeArgsNone parts = v.Operands []
meaning p.SwitchCase parts = v.Edges (record { label = token_of (part 3 parts); args = []; case_of = Some (member_of (part 1 parts)) }
    ∷ edges_of (part 4 parts))
meaning p.SwitchDefault parts = v.Edges (record { label = token_of (part 1 parts); args = []; case_of = None } ∷ [])
meaning p.SwitchMoreSome parts = part 1 parts
meaning p.SwitchMoreEnd parts = v.Edges []
meaning p.WholeEnumElement parts = member parts
meaning p.EnumOperandSome parts = v.Operands (operand_of (part 1 parts) ∷ [])
meaning p.EnumOperandNone parts = v.Operands []
meaning p.WholeMemberName parts = member parts
meaning p.FlagsSome parts = part 1 parts
meaning p.FlagsNone parts = flags false false
meaning p.LexicalFirst parts = flags true (flags_of (part 2 parts)).var_decl
meaning p.VarDeclFirst parts = flags (flags_of (part 2 parts)).lexical true
meaning p.VarDeclAfterSome parts = flags false true
meaning p.VarDeclAfterNone parts = flags false false
meaning p.LexicalAfterSome parts = flags true false
meaning p.LexicalAfterNone parts = flags false false
meaning p.QualifierSome parts = part 1 parts
meaning p.QualifierNone parts = v.Qualifier no_qualifier
meaning p.QualifierCopy parts = qualified qualifier.Copy 0 parts
meaning p.QualifierTake parts = qualified qualifier.Take 0 parts
meaning p.QualifierTrivial parts = qualified qualifier.Trivial 0 parts
meaning p.QualifierInit parts = qualified qualifier.Init 0 parts
meaning p.QualifierAssign parts = qualified qualifier.Assign 0 parts
meaning p.TakeFlagSome parts = qualified qualifier.Take 1 parts
meaning p.TakeFlagNone parts = v.Qualifier no_qualifier
meaning p.InitFlagSome parts = part 1 parts
meaning p.InitFlagNone parts = v.Qualifier no_qualifier
meaning p.InitShort parts = qualified qualifier.Init 0 parts
meaning p.InitLong parts = qualified qualifier.Init 0 parts
meaning p.DebugSome parts = part 1 parts
meaning p.DebugNone parts = v.Debug no_debug
meaning p.DebugLet parts = v.Debug (record (debug_of (part 1 parts)) { binding = Some debugged.Let })
meaning p.DebugVar parts = v.Debug (record (debug_of (part 1 parts)) { binding = Some debugged.Var })
meaning p.DebugRest parts = part 0 parts
meaning p.DebugAfterBindingSome parts = part 1 parts
meaning p.DebugAfterBindingNone parts = v.Debug no_debug
meaning p.DebugName parts = v.Debug (record (debug_of (part 2 parts)) { name = Some (text_at 1 parts) })
meaning p.DebugNoName parts = part 0 parts
meaning p.DebugAfterNameSome parts = part 1 parts
meaning p.DebugAfterNameNone parts = v.Debug no_debug
meaning p.DebugNumber parts = v.Debug (record (debug_of (part 2 parts)) { argno = small_of 65535 (text_at 1 parts) })
meaning p.DebugNoNumber parts = part 0 parts
meaning p.DebugAfterNumberSome parts = part 1 parts
meaning p.DebugAfterNumberNone parts = v.Debug no_debug
meaning p.DebugDeref parts = v.Debug (record no_debug { deref = true })
meaning p.EntrySome parts = v.Entry (record { owner = text_at 1 parts; function = token_of (part 7 parts) })
-- nothing is kept of any other part
meaning _ parts = v.Nothing
