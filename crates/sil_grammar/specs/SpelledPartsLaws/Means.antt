-- What each production of the grammar stands for, by what the parts of its body stand for: one line a production.
-- No limit is asked for here. A type past the limit on depth isn't kept: `()` stands in its place, of a depth past the limit.
-- A number that is out of its range is none.
use Rattle.std.specs.Prelude.{◌≡◌, List, [], ◌∷◌, Some, None, true, false}
use Rattle.instruction_table.specs.Forms.{parts_of}
use Rattle.sil_ast.specs.declared.debug.Binding.TheVariants as debugged
use Rattle.sil_ast.specs.declared.decl.Storage.TheVariants as storage
use Rattle.sil_ast.specs.declared.function.ArgKind.TheVariants as kind
use Rattle.sil_ast.specs.declared.function.Linkage.TheVariants as linkage
use Rattle.sil_ast.specs.declared.inst.Qualifier.TheVariants as qualifier
use Rattle.sil_ast.specs.declared.module.Stage.TheVariants as stage
use Rattle.sil_ast.specs.declared.signature.Convention.TheVariants as convention
use Rattle.sil_ast.specs.declared.signature.Passing.TheVariants as passing
use Rattle.sil_ast.specs.declared.type_name.TypeName.TheVariants as ty
use Rattle.sil_grammar_tables.specs.declared.grammar.Production.{Production}
use Rattle.sil_grammar_tables.specs.declared.grammar.Production.TheVariants as p
use Rattle.sil_grammar_tree.specs.WrittenNumbers.Numbers.{small_of}
use Rattle.sil_grammar_values.specs.Imports.{with_import}
use Rattle.sil_grammar_values.specs.Opened.{PartValue}
use Rattle.sil_grammar_values.specs.Types.{in_parens, named_type, one_deeper, one_token, type_before, with_questions}
use Rattle.sil_grammar_values.specs.Values.{bare_inst, no_debug, no_givens, no_params, no_qualifier, no_types}
use Rattle.sil_grammar_values.specs.Variants as v
use Rattle.sil_grammar_tree.specs.declared.written_tree.fault.Fault.{Fault}
use Rattle.sil_grammar_tree.specs.declared.written_tree.written_declarations.WrittenDecl.TheVariants as decl
use Rattle.sil_grammar_tree.specs.declared.written_tree.written_instructions.WrittenInst.{WrittenInst}
use Rattle.sil_grammar_tree.specs.declared.written_tree.written_module.WrittenItem.TheVariants as item
use Rattle.sil_grammar.specs.SpelledPartsLaws.RowParts.{IsRow}

unfoldable pub Means : Production → List PartValue → PartValue → Type 0
-- a module: its stage, its imports and its items in order
Means p.WholeModule (v.Stage s ∷ v.Imports imports ∷ v.Items items ∷ []) value =
    value ≡ v.Module (record { stage = s; imports = imports; items = items })
-- a stage that isn't written is canonical
Means p.StageSome (_ ∷ v.Stage s ∷ []) value = value ≡ v.Stage s
Means p.StageNone [] value = value ≡ v.Stage stage.Canonical
Means p.Raw (_ ∷ []) value = value ≡ v.Stage stage.Raw
Means p.Canonical (_ ∷ []) value = value ≡ v.Stage stage.Canonical
-- of the imports `Builtin` and `Swift` are kept, and others are dropped
Means p.ImportsMore (_ ∷ v.Token name ∷ v.Imports others ∷ []) value = value ≡ v.Imports (with_import name.text others)
Means p.ImportsEnd [] value = value ≡ v.Imports (record { builtin = false; swift = false })
Means p.ItemsMore (v.Item i ∷ v.Items others ∷ []) value = value ≡ v.Items (i ∷ others)
Means p.ItemsEnd [] value = value ≡ v.Items []
-- declarations: `final` is dropped
Means p.FinalClass (_ ∷ _ ∷ v.Token name ∷ v.Token superclass ∷ _ ∷ v.Fields fields ∷ _ ∷ []) value =
    value ≡ v.Item (item.Decl (decl.Class name (Some superclass) fields))
Means p.FinalClass (_ ∷ _ ∷ v.Token name ∷ v.Nothing ∷ _ ∷ v.Fields fields ∷ _ ∷ []) value = value ≡ v.Item (item.Decl (decl.Class name None fields))
Means p.PlainClass (_ ∷ v.Token name ∷ v.Token superclass ∷ _ ∷ v.Fields fields ∷ _ ∷ []) value =
    value ≡ v.Item (item.Decl (decl.Class name (Some superclass) fields))
Means p.PlainClass (_ ∷ v.Token name ∷ v.Nothing ∷ _ ∷ v.Fields fields ∷ _ ∷ []) value = value ≡ v.Item (item.Decl (decl.Class name None fields))
Means p.SuperclassSome (_ ∷ v.Token name ∷ []) value = value ≡ v.Token name
Means p.SuperclassNone [] value = value ≡ v.Nothing
Means p.StructItem (_ ∷ v.Token name ∷ _ ∷ v.Fields fields ∷ _ ∷ []) value = value ≡ v.Item (item.Decl (decl.Struct name fields))
Means p.EnumItem (_ ∷ v.Token name ∷ _ ∷ v.Cases cases ∷ _ ∷ []) value = value ≡ v.Item (item.Decl (decl.Enum name cases))
-- a function: `[ossa]` is read with its attributes and isn't counted among them
Means p.FunctionItem (_ ∷ v.Linkage l ∷ v.Tokens attributes ∷ v.Token name ∷ _ ∷ _ ∷ v.Signature s ∷ v.Blocks blocks ∷ []) value =
    value ≡ v.Item (item.Function (record { name = name; linkage = l; attributes = attributes; signature = s; blocks = blocks }))
-- a table of a class's deinitialiser, with an entry or without
Means p.VtableItem (_ ∷ v.Token name ∷ _ ∷ v.Entry e ∷ _ ∷ []) value = value ≡ v.Item (item.Vtable (record { class_name = name; entry = Some e }))
Means p.VtableItem (_ ∷ v.Token name ∷ _ ∷ v.Nothing ∷ _ ∷ []) value = value ≡ v.Item (item.Vtable (record { class_name = name; entry = None }))
Means p.EntrySome (_ ∷ v.Token owner ∷ _ ∷ _ ∷ _ ∷ _ ∷ _ ∷ v.Token name ∷ []) value = value ≡ v.Entry (record { owner = owner.text; function = name })
Means p.EntryNone [] value = value ≡ v.Nothing
-- members of a class: `deinit` and `init()` are dropped, and `@_hasStorage` and `final` before a member are
Means p.MembersMore (v.Field f ∷ v.Fields others ∷ []) value = value ≡ v.Fields (f ∷ others)
Means p.MembersMore (v.Nothing ∷ v.Fields others ∷ []) value = value ≡ v.Fields others
Means p.MembersEnd [] value = value ≡ v.Fields []
Means p.StoredMember (_ ∷ v.Field f ∷ []) value = value ≡ v.Field f
Means p.FinalMember (_ ∷ v.Field f ∷ []) value = value ≡ v.Field f
Means p.PlainMember (v.Field f ∷ []) value = value ≡ v.Field f
Means p.DeinitMember (_ ∷ []) value = value ≡ v.Nothing
Means p.InitMember (_ ∷ _ ∷ _ ∷ []) value = value ≡ v.Nothing
Means p.ModifiedStored (_ ∷ v.Field f ∷ []) value = value ≡ v.Field f
Means p.ModifiedFinal (_ ∷ v.Field f ∷ []) value = value ≡ v.Field f
Means p.ModifiedVariable (v.Field f ∷ []) value = value ≡ v.Field f
-- a field is strong where it isn't weak or unowned
Means p.WeakVariable (_ ∷ v.Field f ∷ []) value = value ≡ v.Field (record f { storage = storage.Weak })
Means p.UnownedVariable (_ ∷ v.Field f ∷ []) value = value ≡ v.Field (record f { storage = storage.Unowned })
Means p.StrongVariable (v.Field f ∷ []) value = value ≡ v.Field f
-- `let` is read as `var`, and accessors are dropped
Means p.VarBinding (_ ∷ v.Token name ∷ _ ∷ v.Type t ∷ _ ∷ []) value = value ≡ v.Field (record { name = name; storage = storage.Strong; ty = t.ty })
Means p.LetBinding (_ ∷ v.Token name ∷ _ ∷ v.Type t ∷ _ ∷ []) value = value ≡ v.Field (record { name = name; storage = storage.Strong; ty = t.ty })
Means p.AccessorsSome (_ ∷ _ ∷ _ ∷ _ ∷ []) value = value ≡ v.Nothing
Means p.AccessorsNone [] value = value ≡ v.Nothing
Means p.SetterSome (_ ∷ []) value = value ≡ v.Nothing
Means p.SetterNone [] value = value ≡ v.Nothing
-- fields of a struct
Means p.FieldsMore (v.Field f ∷ v.Fields others ∷ []) value = value ≡ v.Fields (f ∷ others)
Means p.FieldsEnd [] value = value ≡ v.Fields []
Means p.StoredField (_ ∷ v.Field f ∷ []) value = value ≡ v.Field f
Means p.PlainField (v.Field f ∷ []) value = value ≡ v.Field f
-- cases of an enum: several types are their tuple
Means p.CasesMore (_ ∷ v.Token name ∷ v.Type t ∷ v.Cases others ∷ []) value = value ≡ v.Cases (record { name = name; payload = Some t.ty } ∷ others)
Means p.CasesMore (_ ∷ v.Token name ∷ v.Nothing ∷ v.Cases others ∷ []) value = value ≡ v.Cases (record { name = name; payload = None } ∷ others)
Means p.CasesEnd [] value = value ≡ v.Cases []
Means p.PayloadSome (v.Token left ∷ v.Type t ∷ v.Types others ∷ v.Token right ∷ []) value =
    value ≡ v.Type (in_parens left.place (type_before t others) right.place)
Means p.PayloadNone [] value = value ≡ v.Nothing
-- types: one type in parentheses is that type, and `T?` is `Optional<T>`
Means p.BareType (v.Type t ∷ []) value = value ≡ v.Type t
Means p.ParenType (v.Token left ∷ v.Types types ∷ v.Token right ∷ v.Questions questions ∷ []) value =
    value ≡ v.Type (with_questions (in_parens left.place types right.place) questions)
Means p.BaseOpen (v.Type t ∷ v.Questions questions ∷ []) value = value ≡ v.Type (with_questions t questions)
Means p.WeakOpen (v.Token word ∷ v.Type t ∷ []) value = value ≡ v.Type (one_deeper t.depth (ty.Weak t.ty) word.place t.last)
Means p.UnownedOpen (v.Token word ∷ v.Type t ∷ []) value = value ≡ v.Type (one_deeper t.depth (ty.Unowned t.ty) word.place t.last)
Means p.QuestionsMore (v.Token question ∷ v.Questions others ∷ []) value = value ≡ v.Questions (question.place ∷ others)
Means p.QuestionsEnd [] value = value ≡ v.Questions []
-- `Builtin` and `Optional` name a type by themselves, or begin a longer one
Means p.BuiltinBase (v.Token word ∷ v.Type t ∷ []) value = value ≡ v.Type (record t { first = word.place })
Means p.BuiltinBase (v.Token word ∷ v.Nothing ∷ []) value = value ≡ v.Type (named_type word)
Means p.OptionalBase (v.Token word ∷ v.Type t ∷ []) value = value ≡ v.Type (record t { first = word.place })
Means p.OptionalBase (v.Token word ∷ v.Nothing ∷ []) value = value ≡ v.Type (named_type word)
Means p.NamedBase (v.Token word ∷ []) value = value ≡ v.Type (named_type word)
Means p.BuiltinInt (_ ∷ v.Type t ∷ []) value = value ≡ v.Type t
Means p.BuiltinName [] value = value ≡ v.Nothing
Means p.OptionalOf (v.Token left ∷ v.Type t ∷ v.Token right ∷ []) value = value ≡ v.Type (one_deeper t.depth (ty.Optional t.ty) left.place right.place)
Means p.OptionalName [] value = value ≡ v.Nothing
Means p.Width1 (v.Token word ∷ []) value = value ≡ v.Type (one_token (ty.Int 1) word.place)
Means p.Width8 (v.Token word ∷ []) value = value ≡ v.Type (one_token (ty.Int 8) word.place)
Means p.Width16 (v.Token word ∷ []) value = value ≡ v.Type (one_token (ty.Int 16) word.place)
Means p.Width32 (v.Token word ∷ []) value = value ≡ v.Type (one_token (ty.Int 32) word.place)
Means p.Width64 (v.Token word ∷ []) value = value ≡ v.Type (one_token (ty.Int 64) word.place)
Means p.TypesSome (v.Type t ∷ v.Types others ∷ []) value = value ≡ v.Types (type_before t others)
Means p.TypesNone [] value = value ≡ v.Types no_types
Means p.MoreTypesMore (_ ∷ v.Type t ∷ v.Types others ∷ []) value = value ≡ v.Types (type_before t others)
Means p.MoreTypesEnd [] value = value ≡ v.Types no_types
-- what a function has before its blocks
Means p.LinkageHidden (_ ∷ []) value = value ≡ v.Linkage linkage.Hidden
Means p.LinkagePrivate (_ ∷ []) value = value ≡ v.Linkage linkage.Private
Means p.LinkageShared (_ ∷ []) value = value ≡ v.Linkage linkage.Shared
Means p.LinkagePublic (_ ∷ []) value = value ≡ v.Linkage linkage.Public
Means p.LinkagePlain [] value = value ≡ v.Linkage linkage.Plain
Means p.AttributesMore (_ ∷ v.Token word ∷ _ ∷ v.Tokens others ∷ []) value = value ≡ v.Tokens (word ∷ others)
Means p.AttributesEnd [] value = value ≡ v.Tokens []
Means p.WholeFunctionType (_ ∷ _ ∷ v.Convention c ∷ _ ∷ _ ∷ v.Params params ∷ _ ∷ _ ∷ v.Givens results ∷ []) value =
    value ≡ v.Signature (record { convention = c; params = params.params; results = results.givens })
Means p.Thin (_ ∷ []) value = value ≡ v.Convention convention.Thin
Means p.Method (_ ∷ []) value = value ≡ v.Convention convention.Method
Means p.ParamsSome (v.Param x first ∷ v.Params others ∷ []) value = value ≡ v.Params (record { params = x ∷ others.params; firsts = first ∷ others.firsts })
Means p.ParamsNone [] value = value ≡ v.Params no_params
Means p.MoreParamsMore (_ ∷ v.Param x first ∷ v.Params others ∷ []) value =
    value ≡ v.Params (record { params = x ∷ others.params; firsts = first ∷ others.firsts })
Means p.MoreParamsEnd [] value = value ≡ v.Params no_params
Means p.ParamOwned (v.Token word ∷ v.Type t ∷ []) value = value ≡ v.Param (record { passing = passing.Owned; ty = t.ty }) word.place
Means p.ParamGuaranteed (v.Token word ∷ v.Type t ∷ []) value = value ≡ v.Param (record { passing = passing.Guaranteed; ty = t.ty }) word.place
Means p.ParamInout (v.Token word ∷ v.Type t ∷ []) value = value ≡ v.Param (record { passing = passing.Inout; ty = t.ty }) word.place
Means p.ParamIn (v.Token word ∷ v.Type t ∷ []) value = value ≡ v.Param (record { passing = passing.In; ty = t.ty }) word.place
Means p.ParamInGuaranteed (v.Token word ∷ v.Type t ∷ []) value = value ≡ v.Param (record { passing = passing.InGuaranteed; ty = t.ty }) word.place
Means p.ParamPlain (v.Type t ∷ []) value = value ≡ v.Param (record { passing = passing.Plain; ty = t.ty }) t.first
-- results: a list in parentheses, or one alone
Means p.ResultList (_ ∷ v.Givens results ∷ _ ∷ []) value = value ≡ v.Givens results
Means p.ResultOwned (v.Token word ∷ v.Type t ∷ []) value =
    value ≡ v.Givens (record { givens = record { owned = true; out = false; ty = t.ty } ∷ []; firsts = word.place ∷ [] })
Means p.ResultOut (v.Token word ∷ v.Type t ∷ []) value =
    value ≡ v.Givens (record { givens = record { owned = false; out = true; ty = t.ty } ∷ []; firsts = word.place ∷ [] })
Means p.ResultPlain (v.Type t ∷ []) value =
    value ≡ v.Givens (record { givens = record { owned = false; out = false; ty = t.ty } ∷ []; firsts = t.first ∷ [] })
Means p.InsideSome (v.Given x first ∷ v.Givens others ∷ []) value = value ≡ v.Givens (record { givens = x ∷ others.givens; firsts = first ∷ others.firsts })
Means p.InsideNone [] value = value ≡ v.Givens no_givens
Means p.MoreGivensMore (_ ∷ v.Given x first ∷ v.Givens others ∷ []) value =
    value ≡ v.Givens (record { givens = x ∷ others.givens; firsts = first ∷ others.firsts })
Means p.MoreGivensEnd [] value = value ≡ v.Givens no_givens
Means p.GivenOwned (v.Token word ∷ v.Type t ∷ []) value = value ≡ v.Given (record { owned = true; out = false; ty = t.ty }) word.place
Means p.GivenOut (v.Token word ∷ v.Type t ∷ []) value = value ≡ v.Given (record { owned = false; out = true; ty = t.ty }) word.place
Means p.GivenPlain (v.Type t ∷ []) value = value ≡ v.Given (record { owned = false; out = false; ty = t.ty }) t.first
-- blocks: a function without a body has none
Means p.BodySome (_ ∷ v.Block b ∷ v.Blocks others ∷ _ ∷ []) value = value ≡ v.Blocks (b ∷ others)
Means p.BodyNone [] value = value ≡ v.Blocks []
Means p.BlocksMore (v.Block b ∷ v.Blocks others ∷ []) value = value ≡ v.Blocks (b ∷ others)
Means p.BlocksEnd [] value = value ≡ v.Blocks []
Means p.WholeBlock (v.Token label ∷ v.Args args ∷ _ ∷ v.Code insts terminator ∷ []) value =
    value ≡ v.Block (record { label = label; args = args; insts = insts; terminator = terminator })
Means p.BlockArgsSome (_ ∷ v.Arg a ∷ v.Args others ∷ _ ∷ []) value = value ≡ v.Args (a ∷ others)
Means p.BlockArgsNone [] value = value ≡ v.Args []
Means p.MoreBlockArgsMore (_ ∷ v.Arg a ∷ v.Args others ∷ []) value = value ≡ v.Args (a ∷ others)
Means p.MoreBlockArgsEnd [] value = value ≡ v.Args []
-- behind `*` a type is that of an address
Means p.WholeBlockArg (v.Token name ∷ _ ∷ v.Ownership k ∷ _ ∷ v.Star ∷ v.Type t ∷ []) value =
    value ≡ v.Arg (record { name = name; kind = k; ty = ty.Address t.ty })
Means p.WholeBlockArg (v.Token name ∷ _ ∷ v.Ownership k ∷ _ ∷ v.Nothing ∷ v.Type t ∷ []) value = value ≡ v.Arg (record { name = name; kind = k; ty = t.ty })
Means p.OwnershipOwned (_ ∷ []) value = value ≡ v.Ownership kind.Owned
Means p.OwnershipGuaranteed (_ ∷ []) value = value ≡ v.Ownership kind.Guaranteed
Means p.OwnershipNone [] value = value ≡ v.Ownership kind.Plain
Means p.StarSome (_ ∷ []) value = value ≡ v.Star
Means p.StarNone [] value = value ≡ v.Nothing
-- instructions: `%1 =` and `(%1) =` are the same, and `() =` and nothing are
Means p.CodeInst (v.Inst i ∷ v.Code insts terminator ∷ []) value = value ≡ v.Code (i ∷ insts) terminator
Means p.CodeEnd (v.Inst terminator ∷ []) value = value ≡ v.Code [] terminator
Means p.InstOneName (v.Token name ∷ _ ∷ v.Inst i ∷ []) value = value ≡ v.Inst (record i { results = name ∷ [] })
Means p.InstNames (_ ∷ v.Tokens names ∷ _ ∷ _ ∷ v.Inst i ∷ []) value = value ≡ v.Inst (record i { results = names })
Means p.InstUnnamed (v.Inst i ∷ []) value = value ≡ v.Inst i
Means p.NamesSome (v.Token name ∷ v.Tokens others ∷ []) value = value ≡ v.Tokens (name ∷ others)
Means p.NamesNone [] value = value ≡ v.Tokens []
Means p.MoreNamesMore (_ ∷ v.Token name ∷ v.Tokens others ∷ []) value = value ≡ v.Tokens (name ∷ others)
Means p.MoreNamesEnd [] value = value ≡ v.Tokens []
-- the row of an instruction: its mnemonic, and the parts that the table of instructions gives it
Means (p.Row o) (v.Token mnemonic ∷ parts) value =
    (inst : WrittenInst) × (faults : List Fault) × IsRow o (parts_of o) parts (bare_inst o mnemonic.place) inst faults × (value ≡ v.Inst inst)
-- operands
Means p.WholeOperand (v.Token name ∷ _ ∷ _ ∷ v.Star ∷ v.Type t ∷ []) value = value ≡ v.Operand (record { name = name; ty = Some (ty.Address t.ty) })
Means p.WholeOperand (v.Token name ∷ _ ∷ _ ∷ v.Nothing ∷ v.Type t ∷ []) value = value ≡ v.Operand (record { name = name; ty = Some t.ty })
Means p.OperandsSome (v.Operand o ∷ v.Operands others ∷ []) value = value ≡ v.Operands (o ∷ others)
Means p.OperandsNone [] value = value ≡ v.Operands []
Means p.MoreOperandsMore (_ ∷ v.Operand o ∷ v.Operands others ∷ []) value = value ≡ v.Operands (o ∷ others)
Means p.MoreOperandsEnd [] value = value ≡ v.Operands []
Means p.BareNamesSome (v.Token name ∷ v.Tokens others ∷ []) value = value ≡ v.Tokens (name ∷ others)
Means p.BareNamesNone [] value = value ≡ v.Tokens []
Means p.EnumOperandSome (_ ∷ v.Operand o ∷ []) value = value ≡ v.Operands (o ∷ [])
Means p.EnumOperandNone [] value = value ≡ v.Operands []
-- the blocks that a terminator goes to
Means p.WholeEdge (v.Token label ∷ v.Operands args ∷ []) value = value ≡ v.Edge (record { label = label; args = args; case_of = None })
Means p.EdgeArgsSome (_ ∷ v.Operand o ∷ v.Operands others ∷ _ ∷ []) value = value ≡ v.Operands (o ∷ others)
Means p.EdgeArgsNone [] value = value ≡ v.Operands []
Means p.SwitchCase (_ ∷ v.Member m ∷ _ ∷ v.Token label ∷ v.Edges others ∷ []) value =
    value ≡ v.Edges (record { label = label; args = []; case_of = Some m } ∷ others)
Means p.SwitchDefault (_ ∷ v.Token label ∷ []) value = value ≡ v.Edges (record { label = label; args = []; case_of = None } ∷ [])
Means p.SwitchMoreSome (_ ∷ v.Edges others ∷ []) value = value ≡ v.Edges others
Means p.SwitchMoreEnd [] value = value ≡ v.Edges []
-- members: `.N` behind `enumelt` is dropped
Means p.WholeMemberName (_ ∷ v.Token owner ∷ _ ∷ v.Token name ∷ []) value = value ≡ v.Member (record { owner = owner.text; name = name.text })
Means p.WholeEnumElement (_ ∷ v.Token owner ∷ _ ∷ v.Token name ∷ _ ∷ _ ∷ _ ∷ []) value = value ≡ v.Member (record { owner = owner.text; name = name.text })
Means p.SuffixSome (_ ∷ _ ∷ []) value = value ≡ v.Nothing
Means p.SuffixNone [] value = value ≡ v.Nothing
-- `[lexical]` and `[var_decl]` in any order
Means p.FlagsSome (_ ∷ v.Flags f ∷ []) value = value ≡ v.Flags f
Means p.FlagsNone [] value = value ≡ v.Flags (record { lexical = false; var_decl = false })
Means p.LexicalFirst (_ ∷ _ ∷ v.Flags f ∷ []) value = value ≡ v.Flags (record { lexical = true; var_decl = f.var_decl })
Means p.VarDeclFirst (_ ∷ _ ∷ v.Flags f ∷ []) value = value ≡ v.Flags (record { lexical = f.lexical; var_decl = true })
Means p.VarDeclAfterSome (_ ∷ _ ∷ _ ∷ []) value = value ≡ v.Flags (record { lexical = false; var_decl = true })
Means p.VarDeclAfterNone [] value = value ≡ v.Flags (record { lexical = false; var_decl = false })
Means p.LexicalAfterSome (_ ∷ _ ∷ _ ∷ []) value = value ≡ v.Flags (record { lexical = true; var_decl = false })
Means p.LexicalAfterNone [] value = value ≡ v.Flags (record { lexical = false; var_decl = false })
-- words in brackets: `[initialization]` is read as `[init]`
Means p.QualifierSome (_ ∷ v.Qualifier q ∷ _ ∷ []) value = value ≡ v.Qualifier q
Means p.QualifierNone [] value = value ≡ v.Qualifier no_qualifier
Means p.QualifierCopy (v.Token word ∷ []) value = value ≡ v.Qualifier (record { word = qualifier.Copy; place = word.place })
Means p.QualifierTake (v.Token word ∷ []) value = value ≡ v.Qualifier (record { word = qualifier.Take; place = word.place })
Means p.QualifierTrivial (v.Token word ∷ []) value = value ≡ v.Qualifier (record { word = qualifier.Trivial; place = word.place })
Means p.QualifierInit (v.Token word ∷ []) value = value ≡ v.Qualifier (record { word = qualifier.Init; place = word.place })
Means p.QualifierAssign (v.Token word ∷ []) value = value ≡ v.Qualifier (record { word = qualifier.Assign; place = word.place })
Means p.TakeFlagSome (_ ∷ v.Token word ∷ _ ∷ []) value = value ≡ v.Qualifier (record { word = qualifier.Take; place = word.place })
Means p.TakeFlagNone [] value = value ≡ v.Qualifier no_qualifier
Means p.InitFlagSome (_ ∷ v.Qualifier q ∷ _ ∷ []) value = value ≡ v.Qualifier q
Means p.InitFlagNone [] value = value ≡ v.Qualifier no_qualifier
Means p.InitShort (v.Token word ∷ []) value = value ≡ v.Qualifier (record { word = qualifier.Init; place = word.place })
Means p.InitLong (v.Token word ∷ []) value = value ≡ v.Qualifier (record { word = qualifier.Init; place = word.place })
-- words for a debugger, each of which may be left out: `let` or `var`, `name`, `argno` from 0 to 65535, `expr op_deref`
Means p.DebugSome (_ ∷ v.Debug d ∷ []) value = value ≡ v.Debug d
Means p.DebugNone [] value = value ≡ v.Debug no_debug
Means p.DebugLet (_ ∷ v.Debug d ∷ []) value = value ≡ v.Debug (record d { binding = Some debugged.Let })
Means p.DebugVar (_ ∷ v.Debug d ∷ []) value = value ≡ v.Debug (record d { binding = Some debugged.Var })
Means p.DebugRest (v.Debug d ∷ []) value = value ≡ v.Debug d
Means p.DebugAfterBindingSome (_ ∷ v.Debug d ∷ []) value = value ≡ v.Debug d
Means p.DebugAfterBindingNone [] value = value ≡ v.Debug no_debug
Means p.DebugName (_ ∷ v.Token text ∷ v.Debug d ∷ []) value = value ≡ v.Debug (record d { name = Some text.text })
Means p.DebugNoName (v.Debug d ∷ []) value = value ≡ v.Debug d
Means p.DebugAfterNameSome (_ ∷ v.Debug d ∷ []) value = value ≡ v.Debug d
Means p.DebugAfterNameNone [] value = value ≡ v.Debug no_debug
Means p.DebugNumber (_ ∷ v.Token spelling ∷ v.Debug d ∷ []) value = value ≡ v.Debug (record d { argno = small_of 65535 spelling.text })
Means p.DebugNoNumber (v.Debug d ∷ []) value = value ≡ v.Debug d
Means p.DebugAfterNumberSome (_ ∷ v.Debug d ∷ []) value = value ≡ v.Debug d
Means p.DebugAfterNumberNone [] value = value ≡ v.Debug no_debug
Means p.DebugDeref (_ ∷ _ ∷ []) value = value ≡ v.Debug (record no_debug { deref = true })
-- no production stands for anything by other parts
Means _ _ _ = ⊥
