-- Which values stand for each symbol of the grammar.
use Rattle.std.proofs.Common.{◌≡◌, ◌≤◌, List, [], ◌∷◌, ◌++◌, length, take, drop, Option, Some, None, Bool, true, false, ap, ap₂, refl}
use Rattle.std.specs.Prelude.{⊤}
use Rattle.std.specs.List.{AllByRecursion}
use Rattle.sil_ast.specs.declared.debug.Debug as debug
use Rattle.sil_ast.specs.declared.function.ArgKind.{ArgKind}
use Rattle.sil_ast.specs.declared.function.Linkage as linkage
use Rattle.sil_ast.specs.declared.member.Member as member
use Rattle.sil_ast.specs.declared.module.Imports as imports
use Rattle.sil_ast.specs.declared.module.Stage as stage
use Rattle.sil_ast.specs.declared.place.Place.{Place}
use Rattle.sil_ast.specs.declared.signature.Convention as convention
use Rattle.sil_ast.specs.declared.signature.Given as given
use Rattle.sil_ast.specs.declared.signature.Param as param
use Rattle.sil_ast.specs.declared.signature.Signature as signature
use Rattle.sil_ast.specs.declared.type_name.TypeName.{TypeName}
use Rattle.sil_grammar_tables.specs.declared.grammar.Nonterminal.{Nonterminal}
use Rattle.sil_grammar_tables.specs.declared.grammar.Nonterminal.TheVariants as n
use Rattle.sil_grammar_tables.specs.declared.grammar.Symbol.{Symbol}
use Rattle.sil_grammar_tables.specs.declared.grammar.Symbol.TheVariants.{Read, Part}
use Rattle.sil_grammar_values.specs.Opened.{PartFlags, PartGivens, PartParams, PartType, PartTypes, PartValue}
use Rattle.sil_grammar_values.specs.Types.{width_of}
use Rattle.sil_grammar_values.specs.Variants as v
use Rattle.sil_grammar_tree.specs.declared.written_tree.written_declarations.WrittenCase.{WrittenCase}
use Rattle.sil_grammar_tree.specs.declared.written_tree.written_declarations.WrittenField.{WrittenField}
use Rattle.sil_grammar_tree.specs.declared.written_tree.written_declarations.WrittenToken.{WrittenToken}
use Rattle.sil_grammar_tree.specs.declared.written_tree.written_functions.WrittenArg.{WrittenArg}
use Rattle.sil_grammar_tree.specs.declared.written_tree.written_functions.WrittenBlock.{WrittenBlock}
use Rattle.sil_grammar_tree.specs.declared.written_tree.written_instructions.WrittenEdge.{WrittenEdge}
use Rattle.sil_grammar_tree.specs.declared.written_tree.written_instructions.WrittenInst.{WrittenInst}
use Rattle.sil_grammar_tree.specs.declared.written_tree.written_instructions.WrittenOperand.{WrittenOperand}
use Rattle.sil_grammar_tree.specs.declared.written_tree.written_instructions.WrittenQualifier.{WrittenQualifier}
use Rattle.sil_grammar_tree.specs.declared.written_tree.written_module.WrittenEntry.{WrittenEntry}
use Rattle.sil_grammar_tree.specs.declared.written_tree.written_module.WrittenItem.{WrittenItem}
use Rattle.sil_grammar_tree.specs.declared.written_tree.written_module.WrittenModule.{WrittenModule}
use Rattle.sil_grammar.specs.SpelledPartsLaws.Limits.{bits_of}

-- a literal of the type is of the type's own bits
abbrev pub HasBits : TypeName → Type 0
HasBits t = width_of t ≡ bits_of t

-- values of one kind, by what stands in them
pub record Kind : Type 1 where
  pub Content : Type 0
  pub value : Content → PartValue

-- something, or nothing
abbrev pub optional : {A : Type 0} → (A → PartValue) → Option A → PartValue
optional f (Some x) = f x
optional f None = v.Nothing

abbrev pub star : Bool → PartValue
star true = v.Star
star false = v.Nothing

abbrev pub nothing : Kind
nothing = record { Content = ⊤; value = λ _. v.Nothing }

abbrev pub token : Kind
token = record { Content = WrittenToken; value = λ x. v.Token x }

abbrev pub stage_word : Kind
stage_word = record { Content = stage.Stage; value = λ x. v.Stage x }

abbrev pub fields : Kind
fields = record { Content = List WrittenField; value = λ x. v.Fields x }

abbrev pub field : Kind
field = record { Content = WrittenField; value = λ x. v.Field x }

-- a type of which the replay reads literals by its own bits, and of a depth one past the limit at most
pub record IsKept (t : PartType) : Type 0 where
  pub limit : t.depth ≤ 33
  pub bits : HasBits t.ty

pub record AreKept (list : PartTypes) : Type 0 where
  pub limit : list.depth ≤ 33
  pub bits : AllByRecursion HasBits list.types

abbrev pub KeptType : Type 0
KeptType = (t : PartType) × IsKept t

abbrev pub type : Kind
type = record { Content = KeptType; value = λ x. v.Type x.0 }

abbrev pub optional_type : Kind
optional_type = record { Content = Option KeptType; value = optional (λ x. v.Type x.0) }

abbrev pub types : Kind
types = record { Content = (list : PartTypes) × AreKept list; value = λ x. v.Types x.0 }

abbrev pub params : Kind
params = record { Content = PartParams; value = λ x. v.Params x }

abbrev pub givens : Kind
givens = record { Content = PartGivens; value = λ x. v.Givens x }

abbrev pub tokens : Kind
tokens = record { Content = List WrittenToken; value = λ x. v.Tokens x }

abbrev pub blocks : Kind
blocks = record { Content = List WrittenBlock; value = λ x. v.Blocks x }

abbrev pub args : Kind
args = record { Content = List WrittenArg; value = λ x. v.Args x }

abbrev pub inst : Kind
inst = record { Content = WrittenInst; value = λ x. v.Inst x }

abbrev pub operands : Kind
operands = record { Content = List WrittenOperand; value = λ x. v.Operands x }

abbrev pub edges : Kind
edges = record { Content = List WrittenEdge; value = λ x. v.Edges x }

abbrev pub member_name : Kind
member_name = record { Content = member.Member; value = λ x. v.Member x }

abbrev pub flags : Kind
flags = record { Content = PartFlags; value = λ x. v.Flags x }

abbrev pub qualifier : Kind
qualifier = record { Content = WrittenQualifier; value = λ x. v.Qualifier x }

abbrev pub debug_words : Kind
debug_words = record { Content = debug.Debug; value = λ x. v.Debug x }

unfoldable pub kind_of_part : Nonterminal → Kind
kind_of_part n.Module = record { Content = WrittenModule; value = λ x. v.Module x }
kind_of_part n.Stage = stage_word
kind_of_part n.StageWord = stage_word
kind_of_part n.Imports = record { Content = imports.Imports; value = λ x. v.Imports x }
kind_of_part n.Items = record { Content = List WrittenItem; value = λ x. v.Items x }
kind_of_part n.Item = record { Content = WrittenItem; value = λ x. v.Item x }
kind_of_part n.Superclass = record { Content = Option WrittenToken; value = optional (λ x. v.Token x) }
kind_of_part n.Members = fields
kind_of_part n.Member = record { Content = Option WrittenField; value = optional (λ x. v.Field x) }
kind_of_part n.Modified = field
kind_of_part n.Variable = field
kind_of_part n.Binding = field
kind_of_part n.Fields = fields
kind_of_part n.Field = field
kind_of_part n.Accessors = nothing
kind_of_part n.Setter = nothing
kind_of_part n.Cases = record { Content = List WrittenCase; value = λ x. v.Cases x }
kind_of_part n.Payload = optional_type
kind_of_part n.Type = type
kind_of_part n.OpenType = type
kind_of_part n.Base = type
kind_of_part n.BuiltinTail = optional_type
kind_of_part n.OptionalTail = optional_type
kind_of_part n.Width = type
kind_of_part n.Questions = record { Content = List Place; value = λ x. v.Questions x }
kind_of_part n.Types = types
kind_of_part n.MoreTypes = types
kind_of_part n.Linkage = record { Content = linkage.Linkage; value = λ x. v.Linkage x }
kind_of_part n.Attributes = tokens
kind_of_part n.Body = blocks
kind_of_part n.FunctionType = record { Content = signature.Signature; value = λ x. v.Signature x }
kind_of_part n.Convention = record { Content = convention.Convention; value = λ x. v.Convention x }
kind_of_part n.Params = params
kind_of_part n.MoreParams = params
kind_of_part n.Param = record { Content = param.Param × Place; value = λ x. v.Param x.0 x.1 }
kind_of_part n.Results = givens
kind_of_part n.ResultsInside = givens
kind_of_part n.MoreGivens = givens
kind_of_part n.Given = record { Content = given.Given × Place; value = λ x. v.Given x.0 x.1 }
kind_of_part n.Block = record { Content = WrittenBlock; value = λ x. v.Block x }
kind_of_part n.Blocks = blocks
kind_of_part n.BlockArgs = args
kind_of_part n.MoreBlockArgs = args
kind_of_part n.BlockArg = record { Content = WrittenArg; value = λ x. v.Arg x }
kind_of_part n.Ownership = record { Content = ArgKind; value = λ x. v.Ownership x }
kind_of_part n.Star = record { Content = Bool; value = star }
kind_of_part n.Code = record { Content = List WrittenInst × WrittenInst; value = λ x. v.Code x.0 x.1 }
kind_of_part n.Inst = inst
kind_of_part n.Names = tokens
kind_of_part n.MoreNames = tokens
kind_of_part n.Row = inst
kind_of_part n.Terminator = inst
kind_of_part n.Operand = record { Content = WrittenOperand; value = λ x. v.Operand x }
kind_of_part n.Operands = operands
kind_of_part n.MoreOperands = operands
kind_of_part n.BareNames = tokens
kind_of_part n.Edge = record { Content = WrittenEdge; value = λ x. v.Edge x }
kind_of_part n.EdgeArgs = operands
kind_of_part n.SwitchPart = edges
kind_of_part n.SwitchMore = edges
kind_of_part n.EnumElement = member_name
kind_of_part n.ElementSuffix = nothing
kind_of_part n.EnumOperand = operands
kind_of_part n.MemberName = member_name
kind_of_part n.Flags = flags
kind_of_part n.FirstFlag = flags
kind_of_part n.VarDeclAfter = flags
kind_of_part n.LexicalAfter = flags
kind_of_part n.Qualifier = qualifier
kind_of_part n.QualifierWord = qualifier
kind_of_part n.TakeFlag = qualifier
kind_of_part n.InitFlag = qualifier
kind_of_part n.InitWord = qualifier
kind_of_part n.Debug = debug_words
kind_of_part n.DebugPart = debug_words
kind_of_part n.DebugAfterBinding = debug_words
kind_of_part n.DebugNamePart = debug_words
kind_of_part n.DebugAfterName = debug_words
kind_of_part n.DebugNumberPart = debug_words
kind_of_part n.DebugAfterNumber = debug_words
kind_of_part n.DebugDerefPart = debug_words
kind_of_part n.VtableEntry = record { Content = Option WrittenEntry; value = optional (λ x. v.Entry x) }

abbrev pub kind_of : Symbol → Kind
kind_of (Read terminal) = token
kind_of (Part part) = kind_of_part part

-- the value is of the symbol's kind
abbrev pub IsOf : Symbol → PartValue → Type 0
IsOf s value = (content : (kind_of s).Content) × ((kind_of s).value content ≡ value)

-- the values are of the symbols' kinds, one by one
abbrev pub AreOf : List Symbol → List PartValue → Type 0
AreOf [] [] = ⊤
AreOf (s ∷ ss) (value ∷ values) = IsOf s value × AreOf ss values
AreOf _ _ = ⊥

pub front_of : (front ss : List Symbol) (values : List PartValue) → AreOf (front ++ ss) values → AreOf front (take (length front) values)
front_of [] ss values g = tt
front_of (s ∷ front) ss [] g = absurd g
front_of (s ∷ front) ss (value ∷ values) g = (g.0, front_of front ss values g.1)

pub back_of : (front ss : List Symbol) (values : List PartValue) → AreOf (front ++ ss) values → AreOf ss (drop (length front) values)
back_of [] ss values g = g
back_of (s ∷ front) ss [] g = absurd g
back_of (s ∷ front) ss (value ∷ values) g = back_of front ss values g.1

-- contents for symbols in a row, and their values
abbrev pub Contents : List Symbol → Type 0
Contents [] = ⊤
Contents (s ∷ ss) = (kind_of s).Content × Contents ss

abbrev pub values_of : (ss : List Symbol) → Contents ss → List PartValue
values_of [] xs = []
values_of (s ∷ ss) xs = (kind_of s).value xs.0 ∷ values_of ss xs.1

pub contents_of : (ss : List Symbol) (values : List PartValue) → AreOf ss values → (xs : Contents ss) × (values_of ss xs ≡ values)
contents_of [] [] g = (tt, refl)
contents_of (s ∷ ss) (value ∷ values) g =
    let rest = contents_of ss values g.1 in
    ((g.0.0, rest.0), ap₂ (λ x xs. x ∷ xs) g.0.1 rest.1)
contents_of _ _ g = absurd g

-- contents of symbols and of others behind them
pub split_contents : (front ss : List Symbol) (xs : Contents (front ++ ss))
    → (own : Contents front) × (rest : Contents ss) × (values_of front own ++ values_of ss rest ≡ values_of (front ++ ss) xs)
split_contents [] ss xs = (tt, xs, refl)
split_contents (s ∷ front) ss xs =
    let rest = split_contents front ss xs.1 in
    ((xs.0, rest.0), rest.1, ap (λ ys. (kind_of s).value xs.0 ∷ ys) rest.2)
