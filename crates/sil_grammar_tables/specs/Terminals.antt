-- Tokens that stand for themselves in the grammar.
use Rattle.sil_grammar_classes.specs.declared.classes.AtWord.{AtWord}
use Rattle.sil_grammar_classes.specs.declared.classes.Class.TheVariants as c
use Rattle.sil_grammar_classes.specs.declared.classes.Keyword.{Keyword}
use Rattle.sil_grammar_classes.specs.declared.classes.Punctuation.{Punctuation}
use Rattle.sil_grammar_tables.specs.declared.grammar.Terminal.{Terminal}
use Rattle.sil_grammar_tables.specs.declared.grammar.Terminal.TheVariants as t

-- a word, a name with `@`, and a piece of punctuation
abbrev pub word : Keyword → Terminal
word keyword = t.Just (c.Word keyword)

abbrev pub at : AtWord → Terminal
at name = t.Just (c.At name)

abbrev pub punctuation : Punctuation → Terminal
punctuation sign = t.Just (c.Punctuation sign)
