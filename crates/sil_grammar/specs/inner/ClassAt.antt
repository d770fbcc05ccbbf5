-- The class of a token by its number.
use Rattle.std.specs.Prelude.{◌≡◌, ℕ, List}
use Rattle.std.specs.List.{HoldsAt}
use Rattle.sil_grammar_classes.specs.declared.classes.Class.{Class}
use Rattle.sil_lexer.specs.inner.Lexing.{Lexing, lexeme_of}
use Rattle.sil_grammar.specs.Classes.{token_class}

-- the token at i has the class
abbrev pub IsClassAt : List ℕ → Lexing → ℕ → Class → Type 0
IsClassAt text lexing i class = HoldsAt (λ token. class ≡ token_class (lexeme_of text token)) lexing.tokens i
