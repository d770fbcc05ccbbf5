-- All classes, productions and parts, each at a number of its own.
use Rattle.std.proofs.Common.{◌≡◌, ℕ, zero, suc, ◌+◌, List, [], ◌∷◌, ◌++◌, refl, ap, sym, subst, ◌∙◌, Bool, true, false}
use Rattle.std.specs.Prelude.{Option, Some, None, ◌==◌, map, slice_index_or}
use Rattle.std.proofs.lemmas.Bool.{and_parts, eqb-true, eq-eqb, false≢true}
use Rattle.std.specs.List.{list_all}
use Rattle.instruction_table.specs.declared.op.Op.TheVariants as op
use Rattle.instruction_table.specs.declared.op.TheConstants.{OPS}
use Rattle.instruction_table.specs.Forms.{number_of}
use Rattle.sil_grammar_classes.specs.declared.classes.Keyword.TheVariants as k
use Rattle.sil_grammar_classes.specs.declared.classes.AtWord.TheVariants as a
use Rattle.sil_grammar_classes.specs.declared.classes.Punctuation.TheVariants as m
use Rattle.sil_grammar_classes.specs.declared.classes.Class.{Class}
use Rattle.sil_grammar_classes.specs.declared.classes.Class.TheVariants as c
use Rattle.sil_grammar_tables.specs.declared.grammar.Nonterminal.{Nonterminal}
use Rattle.sil_grammar_tables.specs.declared.grammar.Nonterminal.TheVariants as n
use Rattle.sil_grammar_tables.specs.declared.grammar.Production.{Production}
use Rattle.sil_grammar_tables.specs.declared.grammar.Production.TheVariants as p
use Rattle.sil_grammar_shape.specs.inner.ClassNumbers.{keyword_number, at_number, punctuation_number, class_number}
use Rattle.sil_grammar_shape.specs.inner.ParseTable.{look_number, part_number}

-- the end, and each class but the mnemonics
unfoldable pub fixed_looks : List (Option Class)
fixed_looks = None ∷ Some c.Percent ∷ Some c.Number ∷ Some c.BuiltinText ∷ Some c.OtherText ∷ Some (c.At a.Other) ∷ Some (c.At a.HasStorage)
    ∷ Some (c.At a.SilWeak) ∷ Some (c.At a.SilUnowned) ∷ Some (c.At a.Convention) ∷ Some (c.At a.Owned) ∷ Some (c.At a.Guaranteed)
    ∷ Some (c.At a.Inout) ∷ Some (c.At a.In) ∷ Some (c.At a.InGuaranteed) ∷ Some (c.At a.Out)
    ∷ Some (c.Punctuation m.LeftBrace) ∷ Some (c.Punctuation m.RightBrace) ∷ Some (c.Punctuation m.LeftParen)
    ∷ Some (c.Punctuation m.RightParen) ∷ Some (c.Punctuation m.LeftBracket) ∷ Some (c.Punctuation m.RightBracket) ∷ Some (c.Punctuation m.Less)
    ∷ Some (c.Punctuation m.Greater) ∷ Some (c.Punctuation m.Comma) ∷ Some (c.Punctuation m.Colon) ∷ Some (c.Punctuation m.Dot)
    ∷ Some (c.Punctuation m.Question) ∷ Some (c.Punctuation m.Star) ∷ Some (c.Punctuation m.Equals) ∷ Some (c.Punctuation m.Bang)
    ∷ Some (c.Punctuation m.Dollar) ∷ Some (c.Punctuation m.Hash) ∷ Some (c.Punctuation m.Arrow) ∷ Some (c.Word k.Other) ∷ Some (c.Word k.SilStage)
    ∷ Some (c.Word k.Raw) ∷ Some (c.Word k.Canonical) ∷ Some (c.Word k.Import) ∷ Some (c.Word k.Final) ∷ Some (c.Word k.Class) ∷ Some (c.Word k.Sil)
    ∷ Some (c.Word k.SilVtable) ∷ Some (c.Word k.Deinit) ∷ Some (c.Word k.Init) ∷ Some (c.Word k.Weak) ∷ Some (c.Word k.Unowned) ∷ Some (c.Word k.Var)
    ∷ Some (c.Word k.Let) ∷ Some (c.Word k.Get) ∷ Some (c.Word k.Set) ∷ Some (c.Word k.Case) ∷ Some (c.Word k.Builtin) ∷ Some (c.Word k.Optional)
    ∷ Some (c.Word k.Int1) ∷ Some (c.Word k.Int8) ∷ Some (c.Word k.Int16) ∷ Some (c.Word k.Int32) ∷ Some (c.Word k.Int64) ∷ Some (c.Word k.Hidden)
    ∷ Some (c.Word k.Private) ∷ Some (c.Word k.Shared) ∷ Some (c.Word k.Public) ∷ Some (c.Word k.Thin) ∷ Some (c.Word k.Method) ∷ Some (c.Word k.To)
    ∷ Some (c.Word k.Default) ∷ Some (c.Word k.Enumelt) ∷ Some (c.Word k.Lexical) ∷ Some (c.Word k.VarDecl) ∷ Some (c.Word k.Copy)
    ∷ Some (c.Word k.Take) ∷ Some (c.Word k.Trivial) ∷ Some (c.Word k.Assign) ∷ Some (c.Word k.Initialization) ∷ Some (c.Word k.Name)
    ∷ Some (c.Word k.Argno) ∷ Some (c.Word k.Expr) ∷ Some (c.Word k.OpDeref) ∷ Some (c.Word k.Destroyer) ∷ []

-- the end, and each class
unfoldable pub all_looks : List (Option Class)
all_looks = fixed_looks ++ map (λ o. Some (c.Word (k.Mnemonic o))) OPS

unfoldable pub each_look : (Option Class → Bool) → Bool
each_look f = list_all f all_looks

-- how many productions there are but the rows
abbrev FIXED_PRODUCTIONS : ℕ
FIXED_PRODUCTIONS = 181

-- a number of its own for each production, those of rows last
unfoldable pub production_number : Production → ℕ
production_number p.WholeModule = 0
production_number p.StageSome = 1
production_number p.StageNone = 2
production_number p.Raw = 3
production_number p.Canonical = 4
production_number p.ImportsMore = 5
production_number p.ImportsEnd = 6
production_number p.ItemsMore = 7
production_number p.ItemsEnd = 8
production_number p.FinalClass = 9
production_number p.PlainClass = 10
production_number p.StructItem = 11
production_number p.EnumItem = 12
production_number p.FunctionItem = 13
production_number p.VtableItem = 14
production_number p.SuperclassSome = 15
production_number p.SuperclassNone = 16
production_number p.MembersMore = 17
production_number p.MembersEnd = 18
production_number p.StoredMember = 19
production_number p.FinalMember = 20
production_number p.PlainMember = 21
production_number p.DeinitMember = 22
production_number p.InitMember = 23
production_number p.ModifiedStored = 24
production_number p.ModifiedFinal = 25
production_number p.ModifiedVariable = 26
production_number p.WeakVariable = 27
production_number p.UnownedVariable = 28
production_number p.StrongVariable = 29
production_number p.VarBinding = 30
production_number p.LetBinding = 31
production_number p.FieldsMore = 32
production_number p.FieldsEnd = 33
production_number p.StoredField = 34
production_number p.PlainField = 35
production_number p.AccessorsSome = 36
production_number p.AccessorsNone = 37
production_number p.SetterSome = 38
production_number p.SetterNone = 39
production_number p.CasesMore = 40
production_number p.CasesEnd = 41
production_number p.PayloadSome = 42
production_number p.PayloadNone = 43
production_number p.BareType = 44
production_number p.ParenType = 45
production_number p.BaseOpen = 46
production_number p.WeakOpen = 47
production_number p.UnownedOpen = 48
production_number p.BuiltinBase = 49
production_number p.OptionalBase = 50
production_number p.NamedBase = 51
production_number p.BuiltinInt = 52
production_number p.BuiltinName = 53
production_number p.OptionalOf = 54
production_number p.OptionalName = 55
production_number p.Width1 = 56
production_number p.Width8 = 57
production_number p.Width16 = 58
production_number p.Width32 = 59
production_number p.Width64 = 60
production_number p.QuestionsMore = 61
production_number p.QuestionsEnd = 62
production_number p.TypesSome = 63
production_number p.TypesNone = 64
production_number p.MoreTypesMore = 65
production_number p.MoreTypesEnd = 66
production_number p.LinkageHidden = 67
production_number p.LinkagePrivate = 68
production_number p.LinkageShared = 69
production_number p.LinkagePublic = 70
production_number p.LinkagePlain = 71
production_number p.AttributesMore = 72
production_number p.AttributesEnd = 73
production_number p.BodySome = 74
production_number p.BodyNone = 75
production_number p.WholeFunctionType = 76
production_number p.Thin = 77
production_number p.Method = 78
production_number p.ParamsSome = 79
production_number p.ParamsNone = 80
production_number p.MoreParamsMore = 81
production_number p.MoreParamsEnd = 82
production_number p.ParamOwned = 83
production_number p.ParamGuaranteed = 84
production_number p.ParamInout = 85
production_number p.ParamIn = 86
production_number p.ParamInGuaranteed = 87
production_number p.ParamPlain = 88
production_number p.ResultList = 89
production_number p.ResultOwned = 90
production_number p.ResultOut = 91
production_number p.ResultPlain = 92
production_number p.InsideSome = 93
production_number p.InsideNone = 94
production_number p.MoreGivensMore = 95
production_number p.MoreGivensEnd = 96
production_number p.GivenOwned = 97
production_number p.GivenOut = 98
production_number p.GivenPlain = 99
production_number p.WholeBlock = 100
production_number p.BlocksMore = 101
production_number p.BlocksEnd = 102
production_number p.BlockArgsSome = 103
production_number p.BlockArgsNone = 104
production_number p.MoreBlockArgsMore = 105
production_number p.MoreBlockArgsEnd = 106
production_number p.WholeBlockArg = 107
production_number p.OwnershipOwned = 108
production_number p.OwnershipGuaranteed = 109
production_number p.OwnershipNone = 110
production_number p.StarSome = 111
production_number p.StarNone = 112
production_number p.CodeInst = 113
production_number p.CodeEnd = 114
production_number p.InstOneName = 115
production_number p.InstNames = 116
production_number p.InstUnnamed = 117
production_number p.NamesSome = 118
production_number p.NamesNone = 119
production_number p.MoreNamesMore = 120
production_number p.MoreNamesEnd = 121
production_number p.WholeOperand = 122
production_number p.OperandsSome = 123
production_number p.OperandsNone = 124
production_number p.MoreOperandsMore = 125
production_number p.MoreOperandsEnd = 126
production_number p.BareNamesSome = 127
production_number p.BareNamesNone = 128
production_number p.WholeEdge = 129
production_number p.EdgeArgsSome = 130
production_number p.EdgeArgsNone = 131
production_number p.SwitchCase = 132
production_number p.SwitchDefault = 133
production_number p.SwitchMoreSome = 134
production_number p.SwitchMoreEnd = 135
production_number p.WholeEnumElement = 136
production_number p.SuffixSome = 137
production_number p.SuffixNone = 138
production_number p.EnumOperandSome = 139
production_number p.EnumOperandNone = 140
production_number p.WholeMemberName = 141
production_number p.FlagsSome = 142
production_number p.FlagsNone = 143
production_number p.LexicalFirst = 144
production_number p.VarDeclFirst = 145
production_number p.VarDeclAfterSome = 146
production_number p.VarDeclAfterNone = 147
production_number p.LexicalAfterSome = 148
production_number p.LexicalAfterNone = 149
production_number p.QualifierSome = 150
production_number p.QualifierNone = 151
production_number p.QualifierCopy = 152
production_number p.QualifierTake = 153
production_number p.QualifierTrivial = 154
production_number p.QualifierInit = 155
production_number p.QualifierAssign = 156
production_number p.TakeFlagSome = 157
production_number p.TakeFlagNone = 158
production_number p.InitFlagSome = 159
production_number p.InitFlagNone = 160
production_number p.InitShort = 161
production_number p.InitLong = 162
production_number p.DebugSome = 163
production_number p.DebugNone = 164
production_number p.DebugLet = 165
production_number p.DebugVar = 166
production_number p.DebugRest = 167
production_number p.DebugAfterBindingSome = 168
production_number p.DebugAfterBindingNone = 169
production_number p.DebugName = 170
production_number p.DebugNoName = 171
production_number p.DebugAfterNameSome = 172
production_number p.DebugAfterNameNone = 173
production_number p.DebugNumber = 174
production_number p.DebugNoNumber = 175
production_number p.DebugAfterNumberSome = 176
production_number p.DebugAfterNumberNone = 177
production_number p.DebugDeref = 178
production_number p.EntrySome = 179
production_number p.EntryNone = 180
production_number (p.Row o) = FIXED_PRODUCTIONS + number_of o

all_productions : List Production
all_productions = fixed_productions ++ map p.Row OPS
  where
    fixed_productions : List Production
    fixed_productions = p.WholeModule ∷ p.StageSome ∷ p.StageNone ∷ p.Raw ∷ p.Canonical ∷ p.ImportsMore ∷ p.ImportsEnd ∷ p.ItemsMore ∷ p.ItemsEnd
        ∷ p.FinalClass ∷ p.PlainClass ∷ p.StructItem ∷ p.EnumItem ∷ p.FunctionItem ∷ p.VtableItem ∷ p.SuperclassSome ∷ p.SuperclassNone
        ∷ p.MembersMore ∷ p.MembersEnd ∷ p.StoredMember ∷ p.FinalMember ∷ p.PlainMember ∷ p.DeinitMember ∷ p.InitMember ∷ p.ModifiedStored
        ∷ p.ModifiedFinal ∷ p.ModifiedVariable ∷ p.WeakVariable ∷ p.UnownedVariable ∷ p.StrongVariable ∷ p.VarBinding ∷ p.LetBinding ∷ p.FieldsMore
        ∷ p.FieldsEnd ∷ p.StoredField ∷ p.PlainField ∷ p.AccessorsSome ∷ p.AccessorsNone ∷ p.SetterSome ∷ p.SetterNone ∷ p.CasesMore ∷ p.CasesEnd
        ∷ p.PayloadSome ∷ p.PayloadNone ∷ p.BareType ∷ p.ParenType ∷ p.BaseOpen ∷ p.WeakOpen ∷ p.UnownedOpen ∷ p.BuiltinBase ∷ p.OptionalBase
        ∷ p.NamedBase ∷ p.BuiltinInt ∷ p.BuiltinName ∷ p.OptionalOf ∷ p.OptionalName ∷ p.Width1 ∷ p.Width8 ∷ p.Width16 ∷ p.Width32 ∷ p.Width64
        ∷ p.QuestionsMore ∷ p.QuestionsEnd ∷ p.TypesSome ∷ p.TypesNone ∷ p.MoreTypesMore ∷ p.MoreTypesEnd ∷ p.LinkageHidden ∷ p.LinkagePrivate
        ∷ p.LinkageShared ∷ p.LinkagePublic ∷ p.LinkagePlain ∷ p.AttributesMore ∷ p.AttributesEnd ∷ p.BodySome ∷ p.BodyNone ∷ p.WholeFunctionType
        ∷ p.Thin ∷ p.Method ∷ p.ParamsSome ∷ p.ParamsNone ∷ p.MoreParamsMore ∷ p.MoreParamsEnd ∷ p.ParamOwned ∷ p.ParamGuaranteed ∷ p.ParamInout
        ∷ p.ParamIn ∷ p.ParamInGuaranteed ∷ p.ParamPlain ∷ p.ResultList ∷ p.ResultOwned ∷ p.ResultOut ∷ p.ResultPlain ∷ p.InsideSome ∷ p.InsideNone
        ∷ p.MoreGivensMore ∷ p.MoreGivensEnd ∷ p.GivenOwned ∷ p.GivenOut ∷ p.GivenPlain ∷ p.WholeBlock ∷ p.BlocksMore ∷ p.BlocksEnd ∷ p.BlockArgsSome
        ∷ p.BlockArgsNone ∷ p.MoreBlockArgsMore ∷ p.MoreBlockArgsEnd ∷ p.WholeBlockArg ∷ p.OwnershipOwned ∷ p.OwnershipGuaranteed ∷ p.OwnershipNone
        ∷ p.StarSome ∷ p.StarNone ∷ p.CodeInst ∷ p.CodeEnd ∷ p.InstOneName ∷ p.InstNames ∷ p.InstUnnamed ∷ p.NamesSome ∷ p.NamesNone
        ∷ p.MoreNamesMore ∷ p.MoreNamesEnd ∷ p.WholeOperand ∷ p.OperandsSome ∷ p.OperandsNone ∷ p.MoreOperandsMore ∷ p.MoreOperandsEnd
        ∷ p.BareNamesSome ∷ p.BareNamesNone ∷ p.WholeEdge ∷ p.EdgeArgsSome ∷ p.EdgeArgsNone ∷ p.SwitchCase ∷ p.SwitchDefault ∷ p.SwitchMoreSome
        ∷ p.SwitchMoreEnd ∷ p.WholeEnumElement ∷ p.SuffixSome ∷ p.SuffixNone ∷ p.EnumOperandSome ∷ p.EnumOperandNone ∷ p.WholeMemberName
        ∷ p.FlagsSome ∷ p.FlagsNone ∷ p.LexicalFirst ∷ p.VarDeclFirst ∷ p.VarDeclAfterSome ∷ p.VarDeclAfterNone ∷ p.LexicalAfterSome
        ∷ p.LexicalAfterNone ∷ p.QualifierSome ∷ p.QualifierNone ∷ p.QualifierCopy ∷ p.QualifierTake ∷ p.QualifierTrivial ∷ p.QualifierInit
        ∷ p.QualifierAssign ∷ p.TakeFlagSome ∷ p.TakeFlagNone ∷ p.InitFlagSome ∷ p.InitFlagNone ∷ p.InitShort ∷ p.InitLong ∷ p.DebugSome
        ∷ p.DebugNone ∷ p.DebugLet ∷ p.DebugVar ∷ p.DebugRest ∷ p.DebugAfterBindingSome ∷ p.DebugAfterBindingNone ∷ p.DebugName ∷ p.DebugNoName
        ∷ p.DebugAfterNameSome ∷ p.DebugAfterNameNone ∷ p.DebugNumber ∷ p.DebugNoNumber ∷ p.DebugAfterNumberSome ∷ p.DebugAfterNumberNone
        ∷ p.DebugDeref ∷ p.EntrySome ∷ p.EntryNone ∷ []

all_parts : List Nonterminal
all_parts = n.Module ∷ n.Stage ∷ n.StageWord ∷ n.Imports ∷ n.Items ∷ n.Item ∷ n.Superclass ∷ n.Members ∷ n.Member ∷ n.Modified ∷ n.Variable
    ∷ n.Binding ∷ n.Fields ∷ n.Field ∷ n.Accessors ∷ n.Setter ∷ n.Cases ∷ n.Payload ∷ n.Type ∷ n.OpenType ∷ n.Base ∷ n.BuiltinTail ∷ n.OptionalTail
    ∷ n.Width ∷ n.Questions ∷ n.Types ∷ n.MoreTypes ∷ n.Linkage ∷ n.Attributes ∷ n.Body ∷ n.FunctionType ∷ n.Convention ∷ n.Params ∷ n.MoreParams
    ∷ n.Param ∷ n.Results ∷ n.ResultsInside ∷ n.MoreGivens ∷ n.Given ∷ n.Block ∷ n.Blocks ∷ n.BlockArgs ∷ n.MoreBlockArgs ∷ n.BlockArg ∷ n.Ownership
    ∷ n.Star ∷ n.Code ∷ n.Inst ∷ n.Names ∷ n.MoreNames ∷ n.Row ∷ n.Terminator ∷ n.Operand ∷ n.Operands ∷ n.MoreOperands ∷ n.BareNames ∷ n.Edge
    ∷ n.EdgeArgs ∷ n.SwitchPart ∷ n.SwitchMore ∷ n.EnumElement ∷ n.ElementSuffix ∷ n.EnumOperand ∷ n.MemberName ∷ n.Flags ∷ n.FirstFlag
    ∷ n.VarDeclAfter ∷ n.LexicalAfter ∷ n.Qualifier ∷ n.QualifierWord ∷ n.TakeFlag ∷ n.InitFlag ∷ n.InitWord ∷ n.Debug ∷ n.DebugPart
    ∷ n.DebugAfterBinding ∷ n.DebugNamePart ∷ n.DebugAfterName ∷ n.DebugNumberPart ∷ n.DebugAfterNumber ∷ n.DebugDerefPart ∷ n.VtableEntry ∷ []

-- each stands in the list of all, at its number
pub all_looks-at : (l : Option Class) → slice_index_or all_looks (look_number l) None ≡ l
unfolding all_looks fixed_looks look_number class_number keyword_number at_number punctuation_number
all_looks-at None = refl
all_looks-at (Some (c.Word k.Other)) = refl
all_looks-at (Some (c.Word (k.Mnemonic op.IntegerLiteral))) = refl
all_looks-at (Some (c.Word (k.Mnemonic _))) = refl
all_looks-at (Some (c.Word _)) = refl
all_looks-at (Some (c.At a.Other)) = refl
all_looks-at (Some (c.At _)) = refl
all_looks-at (Some (c.Punctuation m.LeftParen)) = refl
all_looks-at (Some (c.Punctuation _)) = refl
all_looks-at (Some c.Percent) = refl
all_looks-at (Some c.Number) = refl
all_looks-at (Some c.BuiltinText) = refl
all_looks-at (Some c.OtherText) = refl

all_productions-at : (q : Production) → slice_index_or all_productions (production_number q) p.WholeModule ≡ q
unfolding all_productions production_number
all_productions-at p.WholeModule = refl
all_productions-at (p.Row op.IntegerLiteral) = refl
all_productions-at (p.Row _) = refl
all_productions-at _ = refl

all_parts-at : (part : Nonterminal) → slice_index_or all_parts (part_number part) n.Module ≡ part
unfolding all_parts part_number
all_parts-at n.Module = refl
all_parts-at _ = refl

list_all-at : {A : Type 0} (f : A → Bool) (d : A) (xs : List A) (i : ℕ) → f d ≡ true → list_all f xs ≡ true → f (slice_index_or xs i d) ≡ true
list_all-at f d [] i e h = e
list_all-at f d (x ∷ xs) zero e h = (and_parts (f x) (list_all f xs) h).0
list_all-at f d (x ∷ xs) (suc i) e h = list_all-at f d xs i e (and_parts (f x) (list_all f xs) h).1

pub each_look-at : (f : Option Class → Bool) → each_look f ≡ true → (l : Option Class) → f l ≡ true
unfolding each_look all_looks fixed_looks
each_look-at f h l = subst (λ x. f x ≡ true) (all_looks-at l) (list_all-at f None all_looks (look_number l) (and_parts (f None) _ h).0 h)

pub same_production : (x y : Production) → (production_number x == production_number y) ≡ true → x ≡ y
same_production x y h = sym (all_productions-at x) ∙ ap (λ i. slice_index_or all_productions i p.WholeModule) (eqb-true _ _ h) ∙ all_productions-at y

pub same_part : (x y : Nonterminal) → (part_number x == part_number y) ≡ true → x ≡ y
same_part x y h = sym (all_parts-at x) ∙ ap (λ i. slice_index_or all_parts i n.Module) (eqb-true _ _ h) ∙ all_parts-at y

-- whether it is this production
unfoldable pub is_it : Option Production → Production → Bool
is_it None q = false
is_it (Some r) q = production_number r == production_number q

pub is_it_some : (o : Option Production) (p : Production) → is_it o p ≡ true → o ≡ Some p
unfolding is_it
is_it_some None p h = absurd (false≢true h)
is_it_some (Some q) p h = ap Some (same_production q p h)

pub is_it-self : (p : Production) → is_it (Some p) p ≡ true
unfolding is_it
is_it-self p = eq-eqb (production_number p) (production_number p) refl
