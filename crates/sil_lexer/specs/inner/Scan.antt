-- What the functions promise that go over blanks and comments, and that find the token at a place.
use Rattle.std.specs.Prelude.{◌≡◌, ℕ, ◌+◌, ◌<◌, ◌≤◌, ◌^◌, Bool, false, ◌||◌, ◌==◌, List, length, take, drop, IsFalse, Result, Ok, Err}
use Rattle.std.specs.Char.{is_ascii_digit}
use Rattle.sil_ast.specs.declared.place.Place.{Place}
use Rattle.sil_rules.specs.declared.limits.TheConstants.{NAME_BYTES}
use Rattle.sil_lexer.specs.declared.token.TokenKind.{TokenKind}
use Rattle.sil_lexer.specs.declared.token.TokenKind.TheVariants.{AtName, Percent}
use Rattle.sil_lexer.specs.declared.token.Token.{Token}
use Rattle.sil_lexer.specs.declared.token.LexRefusal.{LexRefusal}
use Rattle.sil_ast.specs.TextBytes.Bytes.{is_word_start}
use Rattle.sil_lexer.specs.Spelling.{IsSpelled, name_length}
use Rattle.sil_lexer.specs.Places.{IsPlaceIn}
use Rattle.sil_lexer.specs.Lexes.{Skips, Stops, begins_skipped}

-- a blank or a comment stands from one place to the other
pub record SkipsOne (text : List ℕ) (at next : Place) : Type 0 where
  pub placed : IsPlaceIn text next
  pub forward : at.offset < next.offset
  pub skipped : (rest : List ℕ) → Skips (drop next.offset text) rest → Skips (drop at.offset text) rest

-- blanks and comments stand from one place to the other, and none stands there
pub record SkipsTo (text : List ℕ) (at next : Place) : Type 0 where
  pub placed : IsPlaceIn text next
  pub forward : at.offset ≤ next.offset
  pub skipped : Skips (drop at.offset text) (drop next.offset text)
  pub no_more : IsFalse (begins_skipped (drop next.offset text))

-- places in the rest of a line fit their type
pub record HasRoom (at : Place) (rest : List ℕ) : Type 0 where
  pub offset : at.offset + length rest < 2 ^ 32
  pub column : at.column + length rest < 2 ^ 32

abbrev pub is_sigil : TokenKind → ℕ → Bool
is_sigil AtName b = b == 64
is_sigil Percent b = b == 37
is_sigil _ b = false

-- a token that isn't punctuation of one byte may begin with this byte
abbrev pub begins_longer : ℕ → Bool
begins_longer b = is_word_start b || b == 37 || b == 64 || is_ascii_digit b || b == 45 || b == 34

-- the token stands at the front of the rest
pub record IsTokenAt (rest : List ℕ) (at : Place) (token : Token) : Type 0 where
  pub placed : token.place ≡ at
  pub some_byte : 0 < token.length
  pub inside : token.length ≤ length rest
  pub spelled : IsSpelled token.kind (take token.length rest) (drop token.length rest)
  pub short : name_length token.kind (take token.length rest) ≤ NAME_BYTES

-- the token at the front of the rest of any text that has the rest at the place, or why there is none
abbrev pub IsScan : List ℕ → Place → Result Token LexRefusal → Type 0
IsScan rest at (Ok token) = IsTokenAt rest at token
IsScan rest at (Err refusal) = (text : List ℕ) → IsPlaceIn text at → drop at.offset text ≡ rest → Stops text rest refusal
