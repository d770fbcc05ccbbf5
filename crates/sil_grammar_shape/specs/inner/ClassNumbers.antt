-- How the choice tells whether a token may stand for a terminal: by the numbers of classes. No definition of the language
-- rests on it.
use Rattle.std.specs.Prelude.{ℕ, ◌+◌, ◌==◌, Bool}
use Rattle.instruction_table.specs.Forms.{number_of}
use Rattle.sil_grammar_classes.specs.declared.classes.Keyword.{Keyword}
use Rattle.sil_grammar_classes.specs.declared.classes.Keyword.TheVariants as k
use Rattle.sil_grammar_classes.specs.declared.classes.AtWord.{AtWord}
use Rattle.sil_grammar_classes.specs.declared.classes.AtWord.TheVariants as a
use Rattle.sil_grammar_classes.specs.declared.classes.Punctuation.{Punctuation}
use Rattle.sil_grammar_classes.specs.declared.classes.Punctuation.TheVariants as m
use Rattle.sil_grammar_classes.specs.declared.classes.Class.{Class}
use Rattle.sil_grammar_classes.specs.declared.classes.Class.TheVariants as c
use Rattle.sil_grammar_tables.specs.declared.grammar.Terminal.{Terminal}
use Rattle.sil_grammar_tables.specs.declared.grammar.Terminal.TheVariants as t
use Rattle.sil_grammar_shape.specs.Accepts.{ends, is_at_word, is_text, is_type, is_word, stays_inside}

-- a number of its own for each class
unfoldable pub keyword_number : Keyword → ℕ
keyword_number k.Other = 0
keyword_number k.SilStage = 1
keyword_number k.Raw = 2
keyword_number k.Canonical = 3
keyword_number k.Import = 4
keyword_number k.Final = 5
keyword_number k.Class = 6
keyword_number k.Sil = 7
keyword_number k.SilVtable = 8
keyword_number k.Deinit = 9
keyword_number k.Init = 10
keyword_number k.Weak = 11
keyword_number k.Unowned = 12
keyword_number k.Var = 13
keyword_number k.Let = 14
keyword_number k.Get = 15
keyword_number k.Set = 16
keyword_number k.Case = 17
keyword_number k.Builtin = 18
keyword_number k.Optional = 19
keyword_number k.Int1 = 20
keyword_number k.Int8 = 21
keyword_number k.Int16 = 22
keyword_number k.Int32 = 23
keyword_number k.Int64 = 24
keyword_number k.Hidden = 25
keyword_number k.Private = 26
keyword_number k.Shared = 27
keyword_number k.Public = 28
keyword_number k.Thin = 29
keyword_number k.Method = 30
keyword_number k.To = 31
keyword_number k.Default = 32
keyword_number k.Enumelt = 33
keyword_number k.Lexical = 34
keyword_number k.VarDecl = 35
keyword_number k.Copy = 36
keyword_number k.Take = 37
keyword_number k.Trivial = 38
keyword_number k.Assign = 39
keyword_number k.Initialization = 40
keyword_number k.Name = 41
keyword_number k.Argno = 42
keyword_number k.Expr = 43
keyword_number k.OpDeref = 44
keyword_number k.Destroyer = 45
keyword_number (k.Mnemonic o) = 46 + number_of o

unfoldable pub at_number : AtWord → ℕ
at_number a.Other = 0
at_number a.HasStorage = 1
at_number a.SilWeak = 2
at_number a.SilUnowned = 3
at_number a.Convention = 4
at_number a.Owned = 5
at_number a.Guaranteed = 6
at_number a.Inout = 7
at_number a.In = 8
at_number a.InGuaranteed = 9
at_number a.Out = 10

unfoldable pub punctuation_number : Punctuation → ℕ
punctuation_number m.LeftBrace = 0
punctuation_number m.RightBrace = 1
punctuation_number m.LeftParen = 2
punctuation_number m.RightParen = 3
punctuation_number m.LeftBracket = 4
punctuation_number m.RightBracket = 5
punctuation_number m.Less = 6
punctuation_number m.Greater = 7
punctuation_number m.Comma = 8
punctuation_number m.Colon = 9
punctuation_number m.Dot = 10
punctuation_number m.Question = 11
punctuation_number m.Star = 12
punctuation_number m.Equals = 13
punctuation_number m.Bang = 14
punctuation_number m.Dollar = 15
punctuation_number m.Hash = 16
punctuation_number m.Arrow = 17

unfoldable pub class_number : Class → ℕ
class_number c.Percent = 1
class_number c.Number = 2
class_number c.BuiltinText = 3
class_number c.OtherText = 4
class_number (c.At w) = 5 + at_number w
class_number (c.Punctuation x) = 16 + punctuation_number x
class_number (c.Word w) = 34 + keyword_number w

-- whether a token of this class may stand for the terminal
unfoldable pub accepts : Terminal → Class → Bool
accepts t.AnyWord class = is_word class
accepts t.TypeWord class = is_type class
accepts t.AnyAt class = is_at_word class
accepts t.AnyText class = is_text class
accepts t.RowWord class = stays_inside class
accepts t.EndWord class = ends class
accepts (t.Just wanted) class = class_number wanted == class_number class
