-- Which tokens may stand for a terminal.
use Rattle.std.specs.Prelude.{◌≡◌, Bool, true, false, not, IsTrue}
use Rattle.sil_grammar_classes.specs.declared.classes.Keyword.{Keyword}
use Rattle.sil_grammar_classes.specs.declared.classes.Keyword.TheVariants as k
use Rattle.sil_grammar_classes.specs.declared.classes.Class.{Class}
use Rattle.sil_grammar_classes.specs.declared.classes.Class.TheVariants as c
use Rattle.sil_grammar_tables.specs.declared.grammar.Terminal.{Terminal}
use Rattle.sil_grammar_tables.specs.declared.grammar.Terminal.TheVariants as t
use Rattle.sil_grammar_tables.specs.Rows.{ends_block}

abbrev pub is_word : Class → Bool
is_word (c.Word w) = true
is_word _ = false

-- whether a word alone names a type: these two begin a longer type as well
abbrev pub is_type_word : Keyword → Bool
is_type_word k.Builtin = false
is_type_word k.Optional = false
is_type_word _ = true

abbrev pub is_type : Class → Bool
is_type (c.Word w) = is_type_word w
is_type _ = false

abbrev pub is_at_word : Class → Bool
is_at_word (c.At w) = true
is_at_word _ = false

abbrev pub is_text : Class → Bool
is_text c.BuiltinText = true
is_text c.OtherText = true
is_text _ = false

-- the mnemonic of an instruction that ends no block, and of one that ends a block
abbrev pub stays_inside : Class → Bool
stays_inside (c.Word (k.Mnemonic o)) = not (ends_block o)
stays_inside _ = false

abbrev pub ends : Class → Bool
ends (c.Word (k.Mnemonic o)) = ends_block o
ends _ = false

-- a token of this class may stand for the terminal
abbrev pub Suits : Terminal → Class → Type 0
Suits t.AnyWord class = IsTrue (is_word class)
Suits t.TypeWord class = IsTrue (is_type class)
Suits t.AnyAt class = IsTrue (is_at_word class)
Suits t.AnyText class = IsTrue (is_text class)
Suits t.RowWord class = IsTrue (stays_inside class)
Suits t.EndWord class = IsTrue (ends class)
Suits (t.Just wanted) class = wanted ≡ class
