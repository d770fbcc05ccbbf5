-- The parse table: where the production stands that a part and what comes next choose. No definition of the language
-- rests on it.
use Rattle.std.specs.Prelude.{ℕ, ◌+◌, ◌*◌, ◌≡◌, List, Option, Some, None, slice_index_or}
use Rattle.sil_grammar_classes.specs.declared.classes.Class.{Class}
use Rattle.sil_grammar_tables.specs.declared.grammar.Nonterminal.{Nonterminal}
use Rattle.sil_grammar_tables.specs.declared.grammar.Nonterminal.TheVariants as n
use Rattle.sil_grammar_tables.specs.declared.grammar.Production.{Production}
use Rattle.sil_grammar_shape.specs.declared.parse_table.TheConstants.{PARTS}
use Rattle.sil_grammar_shape.specs.inner.Choice.{choose}
use Rattle.sil_grammar_shape.specs.inner.ClassNumbers.{class_number}

-- a number of its own for each part
unfoldable pub part_number : Nonterminal → ℕ
part_number n.Module = 0
part_number n.Stage = 1
part_number n.StageWord = 2
part_number n.Imports = 3
part_number n.Items = 4
part_number n.Item = 5
part_number n.Superclass = 6
part_number n.Members = 7
part_number n.Member = 8
part_number n.Modified = 9
part_number n.Variable = 10
part_number n.Binding = 11
part_number n.Fields = 12
part_number n.Field = 13
part_number n.Accessors = 14
part_number n.Setter = 15
part_number n.Cases = 16
part_number n.Payload = 17
part_number n.Type = 18
part_number n.OpenType = 19
part_number n.Base = 20
part_number n.BuiltinTail = 21
part_number n.OptionalTail = 22
part_number n.Width = 23
part_number n.Questions = 24
part_number n.Types = 25
part_number n.MoreTypes = 26
part_number n.Linkage = 27
part_number n.Attributes = 28
part_number n.Body = 29
part_number n.FunctionType = 30
part_number n.Convention = 31
part_number n.Params = 32
part_number n.MoreParams = 33
part_number n.Param = 34
part_number n.Results = 35
part_number n.ResultsInside = 36
part_number n.MoreGivens = 37
part_number n.Given = 38
part_number n.Block = 39
part_number n.Blocks = 40
part_number n.BlockArgs = 41
part_number n.MoreBlockArgs = 42
part_number n.BlockArg = 43
part_number n.Ownership = 44
part_number n.Star = 45
part_number n.Code = 46
part_number n.Inst = 47
part_number n.Names = 48
part_number n.MoreNames = 49
part_number n.Row = 50
part_number n.Terminator = 51
part_number n.Operand = 52
part_number n.Operands = 53
part_number n.MoreOperands = 54
part_number n.BareNames = 55
part_number n.Edge = 56
part_number n.EdgeArgs = 57
part_number n.SwitchPart = 58
part_number n.SwitchMore = 59
part_number n.EnumElement = 60
part_number n.ElementSuffix = 61
part_number n.EnumOperand = 62
part_number n.MemberName = 63
part_number n.Flags = 64
part_number n.FirstFlag = 65
part_number n.VarDeclAfter = 66
part_number n.LexicalAfter = 67
part_number n.Qualifier = 68
part_number n.QualifierWord = 69
part_number n.TakeFlag = 70
part_number n.InitFlag = 71
part_number n.InitWord = 72
part_number n.Debug = 73
part_number n.DebugPart = 74
part_number n.DebugAfterBinding = 75
part_number n.DebugNamePart = 76
part_number n.DebugAfterName = 77
part_number n.DebugNumberPart = 78
part_number n.DebugAfterNumber = 79
part_number n.DebugDerefPart = 80
part_number n.VtableEntry = 81

-- a number of its own for the end, and for each class
unfoldable pub look_number : Option Class → ℕ
look_number None = 0
look_number (Some k) = class_number k

-- where the production of a part stands: in the row of what comes next, in the column of the part
unfoldable pub place : Nonterminal → Option Class → ℕ
place part l = look_number l * PARTS + part_number part

-- each production of the table is the one that is chosen; there may be gaps
abbrev pub IsParseTable : List (Option Production) → Type 0
IsParseTable known = (part : Nonterminal) (l : Option Class) (p : Production) → slice_index_or known (place part l) None ≡ Some p → choose part l ≡ Some p
