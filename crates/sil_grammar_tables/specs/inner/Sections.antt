-- The sections of the grammar, of which each has its own entries and builders.
use Rattle.std.specs.Prelude.{⊤, ℕ, Bool, false, nat_lt}
use Rattle.sil_grammar_tables.specs.Grammar.{alternatives, body, written}
use Rattle.sil_grammar_tables.specs.Shortest.{shortest}
use Rattle.sil_grammar_tables.specs.inner.Starts.{empty_choice, starts}
use Rattle.sil_grammar_tables.specs.declared.grammar.Nonterminal.{Nonterminal}
use Rattle.sil_grammar_tables.specs.declared.grammar.Nonterminal.TheVariants as n
use Rattle.sil_grammar_tables.specs.declared.grammar.Production.{Production}
use Rattle.sil_grammar_tables.specs.declared.grammar.Production.TheVariants as p
use Rattle.sil_grammar_tables.specs.declared.sections.Section.{Section}
use Rattle.sil_grammar_tables.specs.declared.sections.Section.TheVariants.{Modules, Declarations, Types, BaseTypes, Functions, Signatures, Blocks, Operands}
use Rattle.sil_grammar_tables.specs.declared.sections.Section.TheVariants.{Words}

-- the section of a part
unfoldable pub part_section : Nonterminal → Section
part_section n.Module = Modules
part_section n.Stage = Modules
part_section n.StageWord = Modules
part_section n.Imports = Modules
part_section n.Items = Modules
part_section n.Item = Modules
part_section n.Superclass = Modules
part_section n.Members = Declarations
part_section n.Member = Declarations
part_section n.Modified = Declarations
part_section n.Variable = Declarations
part_section n.Binding = Declarations
part_section n.Fields = Declarations
part_section n.Field = Declarations
part_section n.Accessors = Declarations
part_section n.Setter = Declarations
part_section n.Cases = Declarations
part_section n.Payload = Types
part_section n.Type = Types
part_section n.OpenType = Types
part_section n.Base = BaseTypes
part_section n.BuiltinTail = BaseTypes
part_section n.OptionalTail = BaseTypes
part_section n.Width = BaseTypes
part_section n.Questions = Types
part_section n.Types = Types
part_section n.MoreTypes = Types
part_section n.Linkage = Functions
part_section n.Attributes = Functions
part_section n.Body = Functions
part_section n.FunctionType = Functions
part_section n.Convention = Functions
part_section n.Params = Signatures
part_section n.MoreParams = Signatures
part_section n.Param = Signatures
part_section n.Results = Signatures
part_section n.ResultsInside = Signatures
part_section n.MoreGivens = Signatures
part_section n.Given = Signatures
part_section n.Block = Blocks
part_section n.Blocks = Blocks
part_section n.BlockArgs = Blocks
part_section n.MoreBlockArgs = Blocks
part_section n.BlockArg = Blocks
part_section n.Ownership = Blocks
part_section n.Star = Blocks
part_section n.Code = Blocks
part_section n.Inst = Blocks
part_section n.Names = Blocks
part_section n.MoreNames = Blocks
part_section n.Row = Blocks
part_section n.Terminator = Blocks
part_section n.Operand = Operands
part_section n.Operands = Operands
part_section n.MoreOperands = Operands
part_section n.BareNames = Blocks
part_section n.Edge = Operands
part_section n.EdgeArgs = Operands
part_section n.SwitchPart = Operands
part_section n.SwitchMore = Operands
part_section n.EnumElement = Operands
part_section n.ElementSuffix = Operands
part_section n.EnumOperand = Operands
part_section n.MemberName = Operands
part_section n.Flags = Words
part_section n.FirstFlag = Words
part_section n.VarDeclAfter = Words
part_section n.LexicalAfter = Words
part_section n.Qualifier = Words
part_section n.QualifierWord = Words
part_section n.TakeFlag = Words
part_section n.InitFlag = Words
part_section n.InitWord = Words
part_section n.Debug = Words
part_section n.DebugPart = Words
part_section n.DebugAfterBinding = Words
part_section n.DebugNamePart = Words
part_section n.DebugAfterName = Words
part_section n.DebugNumberPart = Words
part_section n.DebugAfterNumber = Words
part_section n.DebugDerefPart = Words
part_section n.VtableEntry = Modules

-- the section of a production
unfoldable pub section : Production → Section
section (p.Row o) = Blocks
section production = part_section (written production)

-- the order of sections
unfoldable pub section_number : Section → ℕ
section_number Modules = 0
section_number Declarations = 1
section_number Types = 2
section_number BaseTypes = 3
section_number Functions = 4
section_number Signatures = 5
section_number Blocks = 6
section_number Operands = 7
section_number Words = 8

-- the part belongs to a section behind this one
unfoldable pub comes_behind : Section → Nonterminal → Bool
comes_behind section part = nat_lt (section_number section) (section_number (part_section part))

-- the production is no row, and belongs to a section behind this one
unfoldable pub is_behind : Section → Production → Bool
is_behind section (p.Row o) = false
is_behind section production = comes_behind section (written production)

-- what a check unfolds where a section is told, and where an entry is one of the tables
unfoldable pub telling : ⊤
unfolding section part_section written
telling = tt

unfoldable pub tables : ⊤
unfolding telling section_number comes_behind is_behind body starts alternatives empty_choice shortest
tables = tt
