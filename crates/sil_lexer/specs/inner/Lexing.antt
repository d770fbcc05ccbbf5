-- What a caller sees of `Tokens`, how it goes with its text, and the laws of the definition.
use Rattle.std.specs.Prelude.{◌≡◌, ℕ, ◌+◌, ◌≤◌, List, [], ◌∷◌, ◌++◌, length, map, slice_range, Option, Some, None, All}
use Rattle.sil_ast.specs.declared.place.Place.{Place}
use Rattle.sil_lexer.specs.declared.token.TokenKind.{TokenKind}
use Rattle.sil_lexer.specs.declared.token.LexRefusal.{LexRefusal}
use Rattle.sil_lexer.specs.declared.token.LexRefusal.TheVariants.{BadByte, UnclosedText, NameTooLong}
use Rattle.sil_lexer.specs.declared.token.Token.{Token}
use Rattle.sil_lexer.specs.Spelling.{Spells, IsSpelled}
use Rattle.sil_lexer.specs.Lexes.{Lexeme, Lexes}

-- the tokens in order, and the refusal at which they end, if they don't reach the end of the text
pub record Lexing : Type 0 where
  pub tokens : List Token
  pub stop : Option LexRefusal

-- the bytes of the text at a token
abbrev pub spelling_of : List ℕ → Token → List ℕ
spelling_of text token = slice_range text token.place.offset (token.place.offset + token.length)

abbrev pub lexeme_of : List ℕ → Token → Lexeme
lexeme_of text token = record { kind = token.kind; place = token.place; spelling = spelling_of text token }

abbrev pub lexemes_of : List ℕ → Lexing → List Lexeme
lexemes_of text lexing = map (lexeme_of text) lexing.tokens

abbrev pub IsInside : List ℕ → Token → Type 0
IsInside text token = token.place.offset + token.length ≤ length text

-- the tokens and the stop are those of the text
pub record IsLexingOf (text : List ℕ) (lexing : Lexing) : Type 0 where
  pub lexed : Lexes text text (lexemes_of text lexing) lexing.stop
  pub inside : All (IsInside text) lexing.tokens

-- a text has one list of tokens and one stop
abbrev pub IsLexedOneWay : Type 0
IsLexedOneWay =
    (text left : List ℕ) (lexemes others : List Lexeme) (stop other : Option LexRefusal)
    → Lexes text left lexemes stop → Lexes text left others other → (lexemes ≡ others) × (stop ≡ other)

-- a spelling that the next byte doesn't continue is the longest one, whatever its kind, that begins the bytes
abbrev pub IsLongestTaken : Type 0
IsLongestTaken =
    (kind other : TokenKind) (spelling after longer rest : List ℕ)
    → IsSpelled kind spelling after → Spells other longer → longer ++ rest ≡ spelling ++ after
    → length longer ≤ length spelling

-- where a refusal stands
abbrev pub refusal_place : LexRefusal → Place
refusal_place (BadByte at) = at
refusal_place (UnclosedText at) = at
refusal_place (NameTooLong at) = at

-- from the offset on, each token begins where the one before has ended or later, and the stop is behind them
abbrev pub AreInOrder : ℕ → List Token → Option LexRefusal → Type 0
AreInOrder from [] None = Unit {0}
AreInOrder from [] (Some refusal) = from ≤ (refusal_place refusal).offset
AreInOrder from (token ∷ tokens) stop = (from ≤ token.place.offset) × AreInOrder (token.place.offset + token.length) tokens stop

abbrev pub IsLexedInOrder : Type 0
IsLexedInOrder = (text : List ℕ) (lexing : Lexing) → IsLexingOf text lexing → AreInOrder 0 lexing.tokens lexing.stop
