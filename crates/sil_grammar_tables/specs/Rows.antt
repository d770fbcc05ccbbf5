-- The rows of the grammar, as the table of instructions gives them: what each part of an instruction's form is in the
-- grammar, and which part of the grammar the instruction writes.
use Rattle.std.specs.Prelude.{List, [], ◌∷◌, ◌++◌, Bool, false, if◌then◌else◌, ◌&&◌, not}
use Rattle.instruction_table.specs.declared.entries.Detail.{Detail}
use Rattle.instruction_table.specs.declared.entries.Detail.TheVariants as detail
use Rattle.instruction_table.specs.declared.entries.Ending.{Ending}
use Rattle.instruction_table.specs.declared.entries.Ending.TheVariants as ending
use Rattle.instruction_table.specs.declared.entries.Words.{Words}
use Rattle.instruction_table.specs.declared.entries.Words.TheVariants as words
use Rattle.instruction_table.specs.declared.forms.Part.{Part}
use Rattle.instruction_table.specs.declared.forms.Part.TheVariants as part
use Rattle.instruction_table.specs.declared.op.Op.{Op}
use Rattle.instruction_table.specs.Forms.{detail_of, ending_of, is_item, is_terminator, may_lack_operand, parts_of, words_of}
use Rattle.sil_grammar_classes.specs.declared.classes.Class.TheVariants as c
use Rattle.sil_grammar_classes.specs.declared.classes.Keyword.TheVariants as k
use Rattle.sil_grammar_classes.specs.declared.classes.Punctuation.TheVariants as m
use Rattle.sil_grammar_tables.specs.declared.grammar.Nonterminal.{Nonterminal}
use Rattle.sil_grammar_tables.specs.declared.grammar.Nonterminal.TheVariants as n
use Rattle.sil_grammar_tables.specs.declared.grammar.Symbol.{Symbol}
use Rattle.sil_grammar_tables.specs.declared.grammar.Symbol.TheVariants as s
use Rattle.sil_grammar_tables.specs.declared.grammar.Terminal.{Terminal}
use Rattle.sil_grammar_tables.specs.declared.grammar.Terminal.TheVariants as t
use Rattle.sil_grammar_tables.specs.Terminals.{word, punctuation}

-- the instruction ends a block
unfoldable pub ends_block : Op → Bool
ends_block o = is_terminator o

-- the part of the grammar that its row writes
unfoldable pub row_part : Op → Nonterminal
row_part o = if ends_block o then n.Terminator else n.Row

-- an operand with its type: where it may be left out, the comma before it belongs to it
unfoldable pub operand_of : Op → Nonterminal
operand_of o = if may_lack_operand o then n.EnumOperand else n.Operand

abbrev pub member_by : Detail → Nonterminal
member_by detail.Case = n.EnumElement
member_by detail.Field = n.MemberName
member_by detail.NoDetail = n.MemberName
member_by detail.Literal = n.MemberName
member_by detail.Element = n.MemberName
member_by detail.Operation = n.MemberName
member_by detail.Message = n.MemberName

-- a member: a case, or a field
unfoldable pub member_of : Op → Nonterminal
member_of o = member_by (detail_of o)

abbrev pub word_by : Words → Nonterminal
word_by words.AnyWord = n.Qualifier
word_by words.TakeWord = n.TakeFlag
word_by words.InitWord = n.InitFlag
word_by words.NoWord = n.Qualifier

-- a word in brackets: any, `[take]` alone, or `[init]` alone
unfoldable pub qualifier_of : Op → Nonterminal
qualifier_of o = word_by (words_of o)

abbrev pub text_by : Detail → Terminal
text_by detail.Operation = t.Just c.BuiltinText
text_by detail.Message = t.AnyText
text_by detail.NoDetail = t.AnyText
text_by detail.Literal = t.AnyText
text_by detail.Element = t.AnyText
text_by detail.Field = t.AnyText
text_by detail.Case = t.AnyText

-- a text: the name of an operation, or any text
unfoldable pub text_of : Op → Terminal
text_of o = text_by (detail_of o)

abbrev pub edges_by : Ending → List Symbol
edges_by ending.OneBranch = s.Part n.Edge ∷ []
edges_by ending.TwoBranches = s.Part n.Edge ∷ s.Read (punctuation m.Comma) ∷ s.Part n.Edge ∷ []
edges_by ending.Cases = s.Part n.SwitchPart ∷ []
edges_by ending.Inside = []
edges_by ending.Return = []
edges_by ending.Unreachable = []

-- the blocks: one, two, or cases and a default
unfoldable pub edges_of : Op → List Symbol
edges_of o = edges_by (ending_of o)

-- `$T`, `: $T` and `( .. )` around a part of the grammar
abbrev pub behind_dollar : Nonterminal → List Symbol
behind_dollar inside = s.Read (punctuation m.Dollar) ∷ s.Part inside ∷ []

abbrev pub behind_colon : Nonterminal → List Symbol
behind_colon inside = s.Read (punctuation m.Colon) ∷ behind_dollar inside

abbrev pub in_parens : Nonterminal → List Symbol
in_parens inside = s.Read (punctuation m.LeftParen) ∷ s.Part inside ∷ s.Read (punctuation m.RightParen) ∷ []

-- what a part of an instruction's form is in the grammar
unfoldable pub symbols_of : Op → Part → List Symbol
symbols_of o part.Flags = s.Part n.Flags ∷ []
symbols_of o part.Qualifier = s.Part (qualifier_of o) ∷ []
symbols_of o part.Typed = s.Part (operand_of o) ∷ []
symbols_of o part.Bare = s.Read (t.Just c.Percent) ∷ []
symbols_of o part.To = s.Read (word k.To) ∷ []
symbols_of o part.TypeWord = behind_dollar n.Type
symbols_of o part.Member = s.Part (member_of o) ∷ []
symbols_of o part.Number = s.Read (t.Just c.Number) ∷ []
symbols_of o part.Text = s.Read (text_of o) ∷ []
symbols_of o part.Callee = s.Read t.AnyAt ∷ []
symbols_of o part.BareArgs = in_parens n.BareNames
symbols_of o part.TypedArgs = in_parens n.Operands
symbols_of o part.ResultType = behind_colon n.Type
symbols_of o part.SignatureWord = behind_colon n.FunctionType
symbols_of o part.Debug = s.Part n.Debug ∷ []
symbols_of o part.Edges = edges_of o

-- the part brings its own comma: it is an operand that may be left out
unfoldable pub brings_comma : Op → Part → Bool
brings_comma o part.Typed = may_lack_operand o
brings_comma o other = false

-- a comma stands between one item and the next
unfoldable pub comma_between : Op → Part → Part → List Symbol
comma_between o before here = if is_item before && is_item here && not (brings_comma o here) then s.Read (punctuation m.Comma) ∷ [] else []

-- the comma behind a part, where others follow
unfoldable pub comma_behind : Op → Part → List Part → List Symbol
comma_behind o here [] = []
comma_behind o here (next ∷ others) = comma_between o here next

-- parts in a row, with their commas
unfoldable pub parts_row : Op → List Part → List Symbol
parts_row o [] = []
parts_row o (here ∷ others) = symbols_of o here ++ comma_behind o here others ++ parts_row o others

-- an instruction's row: its mnemonic, and its parts
unfoldable pub row_body : Op → List Symbol
row_body o = s.Read (word (k.Mnemonic o)) ∷ parts_row o (parts_of o)
