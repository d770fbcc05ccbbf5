-- How the words, the names with `@` and the punctuation of the grammar are spelled.
use Rattle.std.specs.Prelude.{ℕ, List, [], ◌∷◌, Option, codes, bytes_eq, find, map, unwrap_or}
use Rattle.instruction_table.specs.Forms.{mnemonic_of}
use Rattle.instruction_table.specs.declared.op.TheConstants.{OPS}
use Rattle.sil_grammar_classes.specs.declared.classes.Keyword.{Keyword}
use Rattle.sil_grammar_classes.specs.declared.classes.Keyword.TheVariants as k
use Rattle.sil_grammar_classes.specs.declared.classes.AtWord.{AtWord}
use Rattle.sil_grammar_classes.specs.declared.classes.AtWord.TheVariants as a
use Rattle.sil_grammar_classes.specs.declared.classes.Punctuation.{Punctuation}
use Rattle.sil_grammar_classes.specs.declared.classes.Punctuation.TheVariants as m

-- how a keyword is spelled
unfoldable pub spelling : Keyword → List ℕ
spelling k.Other = []
spelling k.SilStage = codes "sil_stage"
spelling k.Raw = codes "raw"
spelling k.Canonical = codes "canonical"
spelling k.Import = codes "import"
spelling k.Final = codes "final"
spelling k.Class = codes "class"
spelling k.Sil = codes "sil"
spelling k.SilVtable = codes "sil_vtable"
spelling k.Deinit = codes "deinit"
spelling k.Init = codes "init"
spelling k.Weak = codes "weak"
spelling k.Unowned = codes "unowned"
spelling k.Var = codes "var"
spelling k.Let = codes "let"
spelling k.Get = codes "get"
spelling k.Set = codes "set"
spelling k.Case = codes "case"
spelling k.Builtin = codes "Builtin"
spelling k.Optional = codes "Optional"
spelling k.Int1 = codes "Int1"
spelling k.Int8 = codes "Int8"
spelling k.Int16 = codes "Int16"
spelling k.Int32 = codes "Int32"
spelling k.Int64 = codes "Int64"
spelling k.Hidden = codes "hidden"
spelling k.Private = codes "private"
spelling k.Shared = codes "shared"
spelling k.Public = codes "public"
spelling k.Thin = codes "thin"
spelling k.Method = codes "method"
spelling k.To = codes "to"
spelling k.Default = codes "default"
spelling k.Enumelt = codes "enumelt"
spelling k.Lexical = codes "lexical"
spelling k.VarDecl = codes "var_decl"
spelling k.Copy = codes "copy"
spelling k.Take = codes "take"
spelling k.Trivial = codes "trivial"
spelling k.Assign = codes "assign"
spelling k.Initialization = codes "initialization"
spelling k.Name = codes "name"
spelling k.Argno = codes "argno"
spelling k.Expr = codes "expr"
spelling k.OpDeref = codes "op_deref"
spelling k.Destroyer = codes "destroyer"
spelling (k.Mnemonic o) = mnemonic_of o

-- every keyword
unfoldable pub keywords : List Keyword
keywords = k.SilStage ∷ k.Raw ∷ k.Canonical ∷ k.Import ∷ k.Final ∷ k.Class ∷ k.Sil ∷ k.SilVtable ∷ k.Deinit ∷ k.Init ∷ k.Weak ∷ k.Unowned ∷ k.Var
    ∷ k.Let ∷ k.Get ∷ k.Set ∷ k.Case ∷ k.Builtin ∷ k.Optional ∷ k.Int1 ∷ k.Int8 ∷ k.Int16 ∷ k.Int32 ∷ k.Int64 ∷ k.Hidden ∷ k.Private ∷ k.Shared
    ∷ k.Public ∷ k.Thin ∷ k.Method ∷ k.To ∷ k.Default ∷ k.Enumelt ∷ k.Lexical ∷ k.VarDecl ∷ k.Copy ∷ k.Take ∷ k.Trivial ∷ k.Assign ∷ k.Initialization
    ∷ k.Name ∷ k.Argno ∷ k.Expr ∷ k.OpDeref ∷ k.Destroyer ∷ map k.Mnemonic OPS

-- the keyword that is spelled so
unfoldable pub known_keyword : List ℕ → Option Keyword
known_keyword word = find (λ k. bytes_eq (spelling k) word) keywords

-- the keyword that is spelled so, or that it is none
unfoldable pub keyword_of : List ℕ → Keyword
keyword_of word = unwrap_or (known_keyword word) k.Other

-- how a name with `@` is spelled, without the `@`
unfoldable pub at_spelling : AtWord → List ℕ
at_spelling a.Other = []
at_spelling a.HasStorage = codes "_hasStorage"
at_spelling a.SilWeak = codes "sil_weak"
at_spelling a.SilUnowned = codes "sil_unowned"
at_spelling a.Convention = codes "convention"
at_spelling a.Owned = codes "owned"
at_spelling a.Guaranteed = codes "guaranteed"
at_spelling a.Inout = codes "inout"
at_spelling a.In = codes "in"
at_spelling a.InGuaranteed = codes "in_guaranteed"
at_spelling a.Out = codes "out"

-- every one of them
unfoldable pub at_words : List AtWord
at_words = a.HasStorage ∷ a.SilWeak ∷ a.SilUnowned ∷ a.Convention ∷ a.Owned ∷ a.Guaranteed ∷ a.Inout ∷ a.In ∷ a.InGuaranteed ∷ a.Out ∷ []

-- the one that is spelled so
unfoldable pub known_at_word : List ℕ → Option AtWord
known_at_word name = find (λ a. bytes_eq (at_spelling a) name) at_words

-- the name with `@` that these bytes spell, without the `@`
unfoldable pub at_word_of : List ℕ → AtWord
at_word_of name = unwrap_or (known_at_word name) a.Other

-- how a piece of punctuation is spelled
unfoldable pub punctuation_spelling : Punctuation → List ℕ
punctuation_spelling m.LeftBrace = codes "{"
punctuation_spelling m.RightBrace = codes "}"
punctuation_spelling m.LeftParen = codes "("
punctuation_spelling m.RightParen = codes ")"
punctuation_spelling m.LeftBracket = codes "["
punctuation_spelling m.RightBracket = codes "]"
punctuation_spelling m.Less = codes "<"
punctuation_spelling m.Greater = codes ">"
punctuation_spelling m.Comma = codes ","
punctuation_spelling m.Colon = codes ":"
punctuation_spelling m.Dot = codes "."
punctuation_spelling m.Question = codes "?"
punctuation_spelling m.Star = codes "*"
punctuation_spelling m.Equals = codes "="
punctuation_spelling m.Bang = codes "!"
punctuation_spelling m.Dollar = codes "$"
punctuation_spelling m.Hash = codes "#"
punctuation_spelling m.Arrow = codes "->"

-- every piece of punctuation
unfoldable pub signs : List Punctuation
signs = m.LeftBrace ∷ m.RightBrace ∷ m.LeftParen ∷ m.RightParen ∷ m.LeftBracket ∷ m.RightBracket ∷ m.Less ∷ m.Greater ∷ m.Comma ∷ m.Colon ∷ m.Dot
    ∷ m.Question ∷ m.Star ∷ m.Equals ∷ m.Bang ∷ m.Dollar ∷ m.Hash ∷ m.Arrow ∷ []

-- the punctuation that these bytes spell
unfoldable pub punctuation_of : List ℕ → Option Punctuation
punctuation_of bytes = find (λ m. bytes_eq (punctuation_spelling m) bytes) signs
