-- For `classes_of`: these are the classes of the tokens so far.
use Rattle.std.proofs.Common.{◌≡◌, map, take}
use Rattle.sil_lexer.specs.inner.Lexing.{lexemes_of}
use Rattle.sil_grammar.specs.Classes.{token_class}
use Rattle.sil_grammar.proofs.classes.classes_of.Given as goal

abbrev pub invariant-loop-i : goal.invariant-loop-i
invariant-loop-i l = l.classes.items ≡ map token_class (take l.i (lexemes_of l.text l.tokens))
