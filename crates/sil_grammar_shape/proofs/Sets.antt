-- What a text of each part begins with, and what may come after it.
use Rattle.std.proofs.Common.{ℕ, List, [], ◌∷◌, Bool, true, false}
use Rattle.sil_grammar_classes.specs.declared.classes.Keyword.TheVariants as k
use Rattle.sil_grammar_classes.specs.declared.classes.AtWord.TheVariants as a
use Rattle.sil_grammar_classes.specs.declared.classes.Punctuation.TheVariants as m
use Rattle.sil_grammar_classes.specs.declared.classes.Class.TheVariants as c
use Rattle.sil_grammar_tables.specs.declared.grammar.Terminal.{Terminal}
use Rattle.sil_grammar_tables.specs.declared.grammar.Terminal.TheVariants as t
use Rattle.sil_grammar_tables.specs.declared.grammar.Nonterminal.{Nonterminal}
use Rattle.sil_grammar_tables.specs.declared.grammar.Nonterminal.TheVariants as n
use Rattle.sil_grammar_tables.specs.Terminals.{at, punctuation, word}
use Rattle.instruction_table.specs.declared.op.Op.TheVariants as op

-- what a text of a part that is not empty begins with
unfoldable pub first : Nonterminal → List Terminal
first n.Module = word k.SilStage ∷ word k.Import ∷ word k.Final ∷ word k.Class ∷ word (k.Mnemonic op.Struct) ∷ word (k.Mnemonic op.Enum) ∷ word k.Sil ∷ word k.SilVtable ∷ []
first n.Stage = word k.SilStage ∷ []
first n.StageWord = word k.Raw ∷ word k.Canonical ∷ []
first n.Imports = word k.Import ∷ []
first n.Items = word k.Final ∷ word k.Class ∷ word (k.Mnemonic op.Struct) ∷ word (k.Mnemonic op.Enum) ∷ word k.Sil ∷ word k.SilVtable ∷ []
first n.Item = word k.Final ∷ word k.Class ∷ word (k.Mnemonic op.Struct) ∷ word (k.Mnemonic op.Enum) ∷ word k.Sil ∷ word k.SilVtable ∷ []
first n.Superclass = punctuation m.Colon ∷ []
first n.Members = word k.Final ∷ word k.Deinit ∷ word k.Init ∷ word k.Weak ∷ word k.Unowned ∷ word k.Var ∷ word k.Let ∷ at a.HasStorage ∷ []
first n.Member = word k.Final ∷ word k.Deinit ∷ word k.Init ∷ word k.Weak ∷ word k.Unowned ∷ word k.Var ∷ word k.Let ∷ at a.HasStorage ∷ []
first n.Modified = word k.Final ∷ word k.Weak ∷ word k.Unowned ∷ word k.Var ∷ word k.Let ∷ at a.HasStorage ∷ []
first n.Variable = word k.Weak ∷ word k.Unowned ∷ word k.Var ∷ word k.Let ∷ []
first n.Binding = word k.Var ∷ word k.Let ∷ []
first n.Fields = word k.Var ∷ word k.Let ∷ at a.HasStorage ∷ []
first n.Field = word k.Var ∷ word k.Let ∷ at a.HasStorage ∷ []
first n.Accessors = punctuation m.LeftBrace ∷ []
first n.Setter = word k.Set ∷ []
first n.Cases = word k.Case ∷ []
first n.Payload = punctuation m.LeftParen ∷ []
first n.Type = t.AnyWord ∷ at a.SilWeak ∷ at a.SilUnowned ∷ punctuation m.LeftParen ∷ []
first n.OpenType = t.AnyWord ∷ at a.SilWeak ∷ at a.SilUnowned ∷ []
first n.Base = t.AnyWord ∷ []
first n.BuiltinTail = punctuation m.Dot ∷ []
first n.OptionalTail = punctuation m.Less ∷ []
first n.Width = word k.Int1 ∷ word k.Int8 ∷ word k.Int16 ∷ word k.Int32 ∷ word k.Int64 ∷ []
first n.Questions = punctuation m.Question ∷ []
first n.Types = t.AnyWord ∷ at a.SilWeak ∷ at a.SilUnowned ∷ punctuation m.LeftParen ∷ []
first n.MoreTypes = punctuation m.Comma ∷ []
first n.Linkage = word k.Hidden ∷ word k.Private ∷ word k.Shared ∷ word k.Public ∷ []
first n.Attributes = punctuation m.LeftBracket ∷ []
first n.Body = punctuation m.LeftBrace ∷ []
first n.FunctionType = at a.Convention ∷ []
first n.Convention = word k.Thin ∷ word k.Method ∷ []
first n.Params = t.AnyWord ∷ at a.SilWeak ∷ at a.SilUnowned ∷ at a.Owned ∷ at a.Guaranteed ∷ at a.Inout ∷ at a.In ∷ at a.InGuaranteed
    ∷ punctuation m.LeftParen ∷ []
first n.MoreParams = punctuation m.Comma ∷ []
first n.Param = t.AnyWord ∷ at a.SilWeak ∷ at a.SilUnowned ∷ at a.Owned ∷ at a.Guaranteed ∷ at a.Inout ∷ at a.In ∷ at a.InGuaranteed
    ∷ punctuation m.LeftParen ∷ []
first n.Results = t.AnyWord ∷ at a.SilWeak ∷ at a.SilUnowned ∷ at a.Owned ∷ at a.Out ∷ punctuation m.LeftParen ∷ []
first n.ResultsInside = t.AnyWord ∷ at a.SilWeak ∷ at a.SilUnowned ∷ at a.Owned ∷ at a.Out ∷ punctuation m.LeftParen ∷ []
first n.MoreGivens = punctuation m.Comma ∷ []
first n.Given = t.AnyWord ∷ at a.SilWeak ∷ at a.SilUnowned ∷ at a.Owned ∷ at a.Out ∷ punctuation m.LeftParen ∷ []
first n.Block = t.AnyWord ∷ []
first n.Blocks = t.AnyWord ∷ []
first n.BlockArgs = punctuation m.LeftParen ∷ []
first n.MoreBlockArgs = punctuation m.Comma ∷ []
first n.BlockArg = t.Just c.Percent ∷ []
first n.Ownership = at a.Owned ∷ at a.Guaranteed ∷ []
first n.Star = punctuation m.Star ∷ []
first n.Code = t.RowWord ∷ t.EndWord ∷ t.Just c.Percent ∷ punctuation m.LeftParen ∷ []
first n.Inst = t.RowWord ∷ t.Just c.Percent ∷ punctuation m.LeftParen ∷ []
first n.Names = t.Just c.Percent ∷ []
first n.MoreNames = punctuation m.Comma ∷ []
first n.Row = t.RowWord ∷ []
first n.Terminator = t.EndWord ∷ []
first n.Operand = t.Just c.Percent ∷ []
first n.Operands = t.Just c.Percent ∷ []
first n.MoreOperands = punctuation m.Comma ∷ []
first n.BareNames = t.Just c.Percent ∷ []
first n.Edge = t.AnyWord ∷ []
first n.EdgeArgs = punctuation m.LeftParen ∷ []
first n.SwitchPart = word k.Case ∷ word k.Default ∷ []
first n.SwitchMore = punctuation m.Comma ∷ []
first n.EnumElement = punctuation m.Hash ∷ []
first n.ElementSuffix = punctuation m.Dot ∷ []
first n.EnumOperand = punctuation m.Comma ∷ []
first n.MemberName = punctuation m.Hash ∷ []
first n.Flags = punctuation m.LeftBracket ∷ []
first n.FirstFlag = word k.Lexical ∷ word k.VarDecl ∷ []
first n.VarDeclAfter = punctuation m.LeftBracket ∷ []
first n.LexicalAfter = punctuation m.LeftBracket ∷ []
first n.Qualifier = punctuation m.LeftBracket ∷ []
first n.QualifierWord = word k.Init ∷ word k.Copy ∷ word k.Take ∷ word k.Trivial ∷ word k.Assign ∷ []
first n.TakeFlag = punctuation m.LeftBracket ∷ []
first n.InitFlag = punctuation m.LeftBracket ∷ []
first n.InitWord = word k.Init ∷ word k.Initialization ∷ []
first n.Debug = punctuation m.Comma ∷ []
first n.DebugPart = word k.Var ∷ word k.Let ∷ word k.Name ∷ word k.Argno ∷ word k.Expr ∷ []
first n.DebugAfterBinding = punctuation m.Comma ∷ []
first n.DebugNamePart = word k.Name ∷ word k.Argno ∷ word k.Expr ∷ []
first n.DebugAfterName = punctuation m.Comma ∷ []
first n.DebugNumberPart = word k.Argno ∷ word k.Expr ∷ []
first n.DebugAfterNumber = punctuation m.Comma ∷ []
first n.DebugDerefPart = word k.Expr ∷ []
first n.VtableEntry = punctuation m.Hash ∷ []

-- what may come after a text of it
unfoldable pub follow : Nonterminal → List Terminal
follow n.Module = []
follow n.Stage = word k.Import ∷ word k.Final ∷ word k.Class ∷ word (k.Mnemonic op.Struct) ∷ word (k.Mnemonic op.Enum) ∷ word k.Sil ∷ word k.SilVtable ∷ []
follow n.StageWord = word k.Import ∷ word k.Final ∷ word k.Class ∷ word (k.Mnemonic op.Struct) ∷ word (k.Mnemonic op.Enum) ∷ word k.Sil ∷ word k.SilVtable ∷ []
follow n.Imports = word k.Final ∷ word k.Class ∷ word (k.Mnemonic op.Struct) ∷ word (k.Mnemonic op.Enum) ∷ word k.Sil ∷ word k.SilVtable ∷ []
follow n.Items = []
follow n.Item = word k.Final ∷ word k.Class ∷ word (k.Mnemonic op.Struct) ∷ word (k.Mnemonic op.Enum) ∷ word k.Sil ∷ word k.SilVtable ∷ []
follow n.Superclass = punctuation m.LeftBrace ∷ []
follow n.Members = punctuation m.RightBrace ∷ []
follow n.Member = word k.Final ∷ word k.Deinit ∷ word k.Init ∷ word k.Weak ∷ word k.Unowned ∷ word k.Var ∷ word k.Let ∷ at a.HasStorage ∷ punctuation m.RightBrace ∷ []
follow n.Modified = word k.Final ∷ word k.Deinit ∷ word k.Init ∷ word k.Weak ∷ word k.Unowned ∷ word k.Var ∷ word k.Let ∷ at a.HasStorage ∷ punctuation m.RightBrace ∷ []
follow n.Variable = word k.Final ∷ word k.Deinit ∷ word k.Init ∷ word k.Weak ∷ word k.Unowned ∷ word k.Var ∷ word k.Let ∷ at a.HasStorage ∷ punctuation m.RightBrace ∷ []
follow n.Binding = word k.Final ∷ word k.Deinit ∷ word k.Init ∷ word k.Weak ∷ word k.Unowned ∷ word k.Var ∷ word k.Let ∷ at a.HasStorage ∷ punctuation m.RightBrace ∷ []
follow n.Fields = punctuation m.RightBrace ∷ []
follow n.Field = word k.Var ∷ word k.Let ∷ at a.HasStorage ∷ punctuation m.RightBrace ∷ []
follow n.Accessors = word k.Final ∷ word k.Deinit ∷ word k.Init ∷ word k.Weak ∷ word k.Unowned ∷ word k.Var ∷ word k.Let ∷ at a.HasStorage ∷ punctuation m.RightBrace ∷ []
follow n.Setter = punctuation m.RightBrace ∷ []
follow n.Cases = punctuation m.RightBrace ∷ []
follow n.Payload = word k.Case ∷ punctuation m.RightBrace ∷ []
follow n.Type = t.AnyWord ∷ at a.HasStorage ∷ t.Just c.Percent ∷ punctuation m.LeftBrace ∷ punctuation m.RightBrace
    ∷ punctuation m.LeftParen ∷ punctuation m.RightParen ∷ punctuation m.Greater ∷ punctuation m.Comma ∷ []
follow n.OpenType = t.AnyWord ∷ at a.HasStorage ∷ t.Just c.Percent ∷ punctuation m.LeftBrace ∷ punctuation m.RightBrace
    ∷ punctuation m.LeftParen ∷ punctuation m.RightParen ∷ punctuation m.Greater ∷ punctuation m.Comma ∷ []
follow n.Base = t.AnyWord ∷ at a.HasStorage ∷ t.Just c.Percent ∷ punctuation m.LeftBrace ∷ punctuation m.RightBrace
    ∷ punctuation m.LeftParen ∷ punctuation m.RightParen ∷ punctuation m.Greater ∷ punctuation m.Comma ∷ punctuation m.Question ∷ []
follow n.BuiltinTail = t.AnyWord ∷ at a.HasStorage ∷ t.Just c.Percent ∷ punctuation m.LeftBrace ∷ punctuation m.RightBrace
    ∷ punctuation m.LeftParen ∷ punctuation m.RightParen ∷ punctuation m.Greater ∷ punctuation m.Comma ∷ punctuation m.Question ∷ []
follow n.OptionalTail = t.AnyWord ∷ at a.HasStorage ∷ t.Just c.Percent ∷ punctuation m.LeftBrace ∷ punctuation m.RightBrace
    ∷ punctuation m.LeftParen ∷ punctuation m.RightParen ∷ punctuation m.Greater ∷ punctuation m.Comma ∷ punctuation m.Question ∷ []
follow n.Width = t.AnyWord ∷ at a.HasStorage ∷ t.Just c.Percent ∷ punctuation m.LeftBrace ∷ punctuation m.RightBrace
    ∷ punctuation m.LeftParen ∷ punctuation m.RightParen ∷ punctuation m.Greater ∷ punctuation m.Comma ∷ punctuation m.Question ∷ []
follow n.Questions = t.AnyWord ∷ at a.HasStorage ∷ t.Just c.Percent ∷ punctuation m.LeftBrace ∷ punctuation m.RightBrace
    ∷ punctuation m.LeftParen ∷ punctuation m.RightParen ∷ punctuation m.Greater ∷ punctuation m.Comma ∷ []
follow n.Types = punctuation m.RightParen ∷ []
follow n.MoreTypes = punctuation m.RightParen ∷ []
follow n.Linkage = t.AnyAt ∷ punctuation m.LeftBracket ∷ []
follow n.Attributes = t.AnyAt ∷ []
follow n.Body = word k.Final ∷ word k.Class ∷ word (k.Mnemonic op.Struct) ∷ word (k.Mnemonic op.Enum) ∷ word k.Sil ∷ word k.SilVtable ∷ []
follow n.FunctionType = word k.Final ∷ word k.Class ∷ t.RowWord ∷ word k.Sil ∷ word k.SilVtable ∷ t.EndWord ∷ t.Just c.Percent ∷ punctuation m.LeftBrace ∷ punctuation m.LeftParen ∷ []
follow n.Convention = punctuation m.RightParen ∷ []
follow n.Params = punctuation m.RightParen ∷ []
follow n.MoreParams = punctuation m.RightParen ∷ []
follow n.Param = punctuation m.RightParen ∷ punctuation m.Comma ∷ []
follow n.Results = word k.Final ∷ word k.Class ∷ t.RowWord ∷ word k.Sil ∷ word k.SilVtable ∷ t.EndWord ∷ t.Just c.Percent ∷ punctuation m.LeftBrace ∷ punctuation m.LeftParen ∷ []
follow n.ResultsInside = punctuation m.RightParen ∷ []
follow n.MoreGivens = punctuation m.RightParen ∷ []
follow n.Given = punctuation m.RightParen ∷ punctuation m.Comma ∷ []
follow n.Block = t.AnyWord ∷ punctuation m.RightBrace ∷ []
follow n.Blocks = punctuation m.RightBrace ∷ []
follow n.BlockArgs = punctuation m.Colon ∷ []
follow n.MoreBlockArgs = punctuation m.RightParen ∷ []
follow n.BlockArg = punctuation m.RightParen ∷ punctuation m.Comma ∷ []
follow n.Ownership = punctuation m.Dollar ∷ []
follow n.Star = t.AnyWord ∷ at a.SilWeak ∷ at a.SilUnowned ∷ punctuation m.LeftParen ∷ []
follow n.Code = t.AnyWord ∷ punctuation m.RightBrace ∷ []
follow n.Inst = t.RowWord ∷ t.EndWord ∷ t.Just c.Percent ∷ punctuation m.LeftParen ∷ []
follow n.Names = punctuation m.RightParen ∷ []
follow n.MoreNames = punctuation m.RightParen ∷ []
follow n.Row = t.RowWord ∷ t.EndWord ∷ t.Just c.Percent ∷ punctuation m.LeftParen ∷ []
follow n.Terminator = t.AnyWord ∷ punctuation m.RightBrace ∷ []
follow n.Operand = t.AnyWord ∷ t.Just c.Percent ∷ punctuation m.RightBrace ∷ punctuation m.LeftParen ∷ punctuation m.RightParen ∷ punctuation m.Comma ∷ []
follow n.Operands = punctuation m.RightParen ∷ []
follow n.MoreOperands = punctuation m.RightParen ∷ []
follow n.BareNames = punctuation m.RightParen ∷ []
follow n.Edge = t.AnyWord ∷ punctuation m.RightBrace ∷ punctuation m.Comma ∷ []
follow n.EdgeArgs = t.AnyWord ∷ punctuation m.RightBrace ∷ punctuation m.Comma ∷ []
follow n.SwitchPart = t.AnyWord ∷ punctuation m.RightBrace ∷ []
follow n.SwitchMore = t.AnyWord ∷ punctuation m.RightBrace ∷ []
follow n.EnumElement = t.RowWord ∷ t.EndWord ∷ t.Just c.Percent ∷ punctuation m.LeftParen ∷ punctuation m.Comma ∷ punctuation m.Colon ∷ []
follow n.ElementSuffix = t.RowWord ∷ t.EndWord ∷ t.Just c.Percent ∷ punctuation m.LeftParen ∷ punctuation m.Comma ∷ punctuation m.Colon ∷ []
follow n.EnumOperand = t.RowWord ∷ t.EndWord ∷ t.Just c.Percent ∷ punctuation m.LeftParen ∷ []
follow n.MemberName = t.RowWord ∷ t.EndWord ∷ t.Just c.Percent ∷ punctuation m.LeftParen ∷ []
follow n.Flags = t.Just c.Percent ∷ punctuation m.Dollar ∷ []
follow n.FirstFlag = t.Just c.Percent ∷ punctuation m.Dollar ∷ []
follow n.VarDeclAfter = t.Just c.Percent ∷ punctuation m.Dollar ∷ []
follow n.LexicalAfter = t.Just c.Percent ∷ punctuation m.Dollar ∷ []
follow n.Qualifier = t.Just c.Percent ∷ []
follow n.QualifierWord = punctuation m.RightBracket ∷ []
follow n.TakeFlag = t.Just c.Percent ∷ []
follow n.InitFlag = t.Just c.Percent ∷ []
follow n.InitWord = punctuation m.RightBracket ∷ []
follow n.Debug = t.RowWord ∷ t.EndWord ∷ t.Just c.Percent ∷ punctuation m.LeftParen ∷ []
follow n.DebugPart = t.RowWord ∷ t.EndWord ∷ t.Just c.Percent ∷ punctuation m.LeftParen ∷ []
follow n.DebugAfterBinding = t.RowWord ∷ t.EndWord ∷ t.Just c.Percent ∷ punctuation m.LeftParen ∷ []
follow n.DebugNamePart = t.RowWord ∷ t.EndWord ∷ t.Just c.Percent ∷ punctuation m.LeftParen ∷ []
follow n.DebugAfterName = t.RowWord ∷ t.EndWord ∷ t.Just c.Percent ∷ punctuation m.LeftParen ∷ []
follow n.DebugNumberPart = t.RowWord ∷ t.EndWord ∷ t.Just c.Percent ∷ punctuation m.LeftParen ∷ []
follow n.DebugAfterNumber = t.RowWord ∷ t.EndWord ∷ t.Just c.Percent ∷ punctuation m.LeftParen ∷ []
follow n.DebugDerefPart = t.RowWord ∷ t.EndWord ∷ t.Just c.Percent ∷ punctuation m.LeftParen ∷ []
follow n.VtableEntry = punctuation m.RightBrace ∷ []

-- whether the list may end after it
unfoldable pub ends : Nonterminal → Bool
ends n.Module = true
ends n.Stage = true
ends n.StageWord = true
ends n.Imports = true
ends n.Items = true
ends n.Item = true
ends n.Type = true
ends n.OpenType = true
ends n.Base = true
ends n.BuiltinTail = true
ends n.OptionalTail = true
ends n.Width = true
ends n.Questions = true
ends n.Body = true
ends n.FunctionType = true
ends n.Results = true
ends _ = false

-- whether its text may be empty
unfoldable pub nullable : Nonterminal → Bool
nullable n.Module = true
nullable n.Stage = true
nullable n.Imports = true
nullable n.Items = true
nullable n.Superclass = true
nullable n.Members = true
nullable n.Fields = true
nullable n.Accessors = true
nullable n.Setter = true
nullable n.Cases = true
nullable n.Payload = true
nullable n.BuiltinTail = true
nullable n.OptionalTail = true
nullable n.Questions = true
nullable n.Types = true
nullable n.MoreTypes = true
nullable n.Linkage = true
nullable n.Attributes = true
nullable n.Body = true
nullable n.Params = true
nullable n.MoreParams = true
nullable n.ResultsInside = true
nullable n.MoreGivens = true
nullable n.Blocks = true
nullable n.BlockArgs = true
nullable n.MoreBlockArgs = true
nullable n.Ownership = true
nullable n.Star = true
nullable n.Names = true
nullable n.MoreNames = true
nullable n.Operands = true
nullable n.MoreOperands = true
nullable n.BareNames = true
nullable n.EdgeArgs = true
nullable n.SwitchMore = true
nullable n.ElementSuffix = true
nullable n.EnumOperand = true
nullable n.Flags = true
nullable n.VarDeclAfter = true
nullable n.LexicalAfter = true
nullable n.Qualifier = true
nullable n.TakeFlag = true
nullable n.InitFlag = true
nullable n.Debug = true
nullable n.DebugAfterBinding = true
nullable n.DebugAfterName = true
nullable n.DebugAfterNumber = true
nullable n.VtableEntry = true
nullable _ = false

-- more than the productions that are expanded one after another, with no token taken, to get rid of it
unfoldable pub weight : Nonterminal → ℕ
weight n.Module = 5
weight n.Items = 2
weight n.Members = 4
weight n.Member = 3
weight n.Modified = 3
weight n.Variable = 2
weight n.Fields = 3
weight n.Field = 2
weight n.Type = 3
weight n.OpenType = 2
weight n.Types = 4
weight n.Params = 5
weight n.Param = 4
weight n.Results = 3
weight n.ResultsInside = 5
weight n.Given = 4
weight n.Blocks = 2
weight n.Code = 3
weight n.Inst = 2
weight n.Operands = 2
weight n.DebugPart = 4
weight n.DebugNamePart = 3
weight n.DebugNumberPart = 2
weight _ = 1

-- how many steps the shortest text of a part has
unfoldable pub needed : Nonterminal → ℕ
needed n.Module = 4
needed n.StageWord = 2
needed n.Item = 6
needed n.Member = 2
needed n.Modified = 12
needed n.Variable = 11
needed n.Binding = 10
needed n.Field = 11
needed n.Type = 5
needed n.OpenType = 4
needed n.Base = 2
needed n.Width = 2
needed n.FunctionType = 15
needed n.Convention = 2
needed n.Param = 6
needed n.Results = 5
needed n.Given = 6
needed n.Block = 7
needed n.BlockArg = 11
needed n.Code = 3
needed n.Inst = 6
needed n.Row = 5
needed n.Terminator = 2
needed n.Operand = 10
needed n.Edge = 3
needed n.SwitchPart = 3
needed n.EnumElement = 8
needed n.MemberName = 5
needed n.FirstFlag = 4
needed n.QualifierWord = 2
needed n.InitWord = 2
needed n.DebugPart = 3
needed n.DebugNamePart = 4
needed n.DebugNumberPart = 4
needed n.DebugDerefPart = 3
needed _ = 1
