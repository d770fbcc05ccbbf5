-- The table of instructions: what each of its columns says of an instruction.
use Rattle.std.specs.Prelude.{ℕ, List, [], Bool, true, false, map, slice_index_or}
use Rattle.instruction_table.specs.declared.columns.TheConstants.{MNEMONICS, PARTS, RESULTS, ENDINGS, WORDS, OPTIONAL_OPERANDS, DETAILS, EXTRA_VALUES}
use Rattle.instruction_table.specs.declared.entries.BareOperands.{BareOperands}
use Rattle.instruction_table.specs.declared.entries.BareOperands.TheVariants.{NoBare}
use Rattle.instruction_table.specs.declared.entries.Detail.{Detail}
use Rattle.instruction_table.specs.declared.entries.Detail.TheVariants.{NoDetail}
use Rattle.instruction_table.specs.declared.entries.Ending.{Ending}
use Rattle.instruction_table.specs.declared.entries.Ending.TheVariants as ending
use Rattle.instruction_table.specs.declared.entries.ExtraValue.{ExtraValue}
use Rattle.instruction_table.specs.declared.entries.ExtraValue.TheVariants.{Never}
use Rattle.instruction_table.specs.declared.entries.InForms.{InForms}
use Rattle.instruction_table.specs.declared.entries.InForms.TheVariants.{BothForms}
use Rattle.instruction_table.specs.declared.entries.ResultKind.{ResultKind}
use Rattle.instruction_table.specs.declared.entries.ResultKind.TheVariants.{NoneResult}
use Rattle.instruction_table.specs.declared.entries.Results.{Results}
use Rattle.instruction_table.specs.declared.entries.Results.TheVariants.{NoResult, OneResult, ResultList}
use Rattle.instruction_table.specs.declared.entries.Role.{Role}
use Rattle.instruction_table.specs.declared.entries.TypeWords.{TypeWords}
use Rattle.instruction_table.specs.declared.entries.TypeWords.TheVariants.{AnyType}
use Rattle.instruction_table.specs.declared.entries.Words.{Words}
use Rattle.instruction_table.specs.declared.entries.Words.TheVariants.{NoWord}
use Rattle.instruction_table.specs.declared.forms.Part.{Part}
use Rattle.instruction_table.specs.declared.forms.Part.TheVariants as part
use Rattle.instruction_table.specs.declared.op.Op.{Op}
use Rattle.instruction_table.specs.declared.op.Op.TheVariants as op
use Rattle.instruction_table.specs.declared.ownership_columns.TheConstants.{ROLES, RESULT_KINDS}
use Rattle.instruction_table.specs.declared.typing_columns.TheConstants.{STORAGE_TYPES, OPERAND_TUPLES, FORMS, TYPE_WORDS, BARE_OPERANDS}

-- the number of an instruction, which is its place in each column
abbrev pub number_of : Op → ℕ
number_of op.IntegerLiteral = 0
number_of op.FunctionRef = 1
number_of op.Builtin = 2
number_of op.CondFail = 3
number_of op.AllocRef = 4
number_of op.AllocStack = 5
number_of op.DeallocStack = 6
number_of op.CopyValue = 7
number_of op.DestroyValue = 8
number_of op.MoveValue = 9
number_of op.BeginBorrow = 10
number_of op.EndBorrow = 11
number_of op.Load = 12
number_of op.Store = 13
number_of op.LoadBorrow = 14
number_of op.DestroyAddr = 15
number_of op.LoadWeak = 16
number_of op.StoreWeak = 17
number_of op.LoadUnowned = 18
number_of op.StoreUnowned = 19
number_of op.Struct = 20
number_of op.Tuple = 21
number_of op.Enum = 22
number_of op.StructExtract = 23
number_of op.TupleExtract = 24
number_of op.DestructureStruct = 25
number_of op.DestructureTuple = 26
number_of op.StructElementAddr = 27
number_of op.TupleElementAddr = 28
number_of op.RefElementAddr = 29
number_of op.Apply = 30
number_of op.DebugValue = 31
number_of op.StrongRetain = 32
number_of op.StrongRelease = 33
number_of op.RetainValue = 34
number_of op.ReleaseValue = 35
number_of op.Br = 36
number_of op.CondBr = 37
number_of op.SwitchEnum = 38
number_of op.Return = 39
number_of op.Unreachable = 40
number_of op.Upcast = 41

-- the word with which an instruction begins
abbrev pub mnemonic_of : Op → List ℕ
mnemonic_of o = slice_index_or (map (λ row. row.now) MNEMONICS) (number_of o) []

-- the parts behind that word, from left to right
abbrev pub parts_of : Op → List Part
parts_of o = slice_index_or (map (λ row. row.now) PARTS) (number_of o) []

-- the parts that are items: a comma stands between one and the next
abbrev pub is_item : Part → Bool
is_item part.Flags = false
is_item part.Qualifier = false
is_item part.Typed = true
is_item part.Bare = true
is_item part.To = false
is_item part.TypeWord = true
is_item part.Member = true
is_item part.Number = true
is_item part.Text = true
is_item part.Callee = false
is_item part.BareArgs = false
is_item part.TypedArgs = false
is_item part.ResultType = false
is_item part.SignatureWord = false
is_item part.Debug = false
is_item part.Edges = true

-- how many results it has
abbrev pub results_of : Op → Results
results_of o = slice_index_or RESULTS (number_of o) NoResult

abbrev pub is_one : Results → Bool
is_one NoResult = false
is_one OneResult = true
is_one ResultList = false

-- it has one result, which may be left without a name
unfoldable pub has_one_result : Op → Bool
has_one_result o = is_one (results_of o)

abbrev pub is_list : Results → Bool
is_list NoResult = false
is_list OneResult = false
is_list ResultList = true

-- its results are a list in parentheses, even one
abbrev pub has_result_list : Op → Bool
has_result_list o = is_list (results_of o)

-- whether it ends a block, and what comes then
abbrev pub ending_of : Op → Ending
ending_of o = slice_index_or ENDINGS (number_of o) ending.Inside

abbrev pub ends : Ending → Bool
ends ending.Inside = false
ends ending.OneBranch = true
ends ending.TwoBranches = true
ends ending.Cases = true
ends ending.Return = true
ends ending.Unreachable = true

-- it ends a block
abbrev pub is_terminator : Op → Bool
is_terminator o = ends (ending_of o)

-- which words may stand in brackets
abbrev pub words_of : Op → Words
words_of o = slice_index_or WORDS (number_of o) NoWord

-- its operands may be left out
abbrev pub may_lack_operand : Op → Bool
may_lack_operand o = slice_index_or OPTIONAL_OPERANDS (number_of o) false

-- what its number, text or member says
abbrev pub detail_of : Op → Detail
detail_of o = slice_index_or DETAILS (number_of o) NoDetail

-- whether it counts for one value more than it defines
abbrev pub extra_value_of : Op → ExtraValue
extra_value_of o = slice_index_or EXTRA_VALUES (number_of o) Never

-- weak and unowned storage may stand behind it as its type
abbrev pub may_have_storage : Op → Bool
may_have_storage o = slice_index_or STORAGE_TYPES (number_of o) false

-- it makes the tuple of its operands
abbrev pub makes_tuple : Op → Bool
makes_tuple o = slice_index_or OPERAND_TUPLES (number_of o) false

-- in functions of which form it may stand
abbrev pub forms_of : Op → InForms
forms_of o = slice_index_or FORMS (number_of o) BothForms

-- which words it takes for which types
abbrev pub type_words_of : Op → TypeWords
type_words_of o = slice_index_or TYPE_WORDS (number_of o) AnyType

-- what its operands without a written type stand for
abbrev pub bare_operands_of : Op → BareOperands
bare_operands_of o = slice_index_or BARE_OPERANDS (number_of o) NoBare

-- what it does to its operands, in order; the last role is that of all operands behind it
abbrev pub roles_of : Op → List Role
roles_of o = slice_index_or (map (λ row. row.now) ROLES) (number_of o) []

-- of what kind its results are, where their types aren't trivial
abbrev pub result_kind_of : Op → ResultKind
result_kind_of o = slice_index_or RESULT_KINDS (number_of o) NoneResult
