-- The tokens of a text, up to its end or up to the first place where there is none.
use Rattle.std.specs.Prelude.{◌≢◌, ℕ, ◌<◌, ◌≤◌, Bool, false, ◌&&◌, ◌||◌, ◌==◌, List, [], ◌∷◌, ◌++◌, IsTrue, IsFalse, Option, Some, None}
use Rattle.std.specs.List.{list_all}
use Rattle.sil_ast.specs.declared.place.Place.{Place}
use Rattle.sil_rules.specs.declared.limits.TheConstants.{NAME_BYTES}
use Rattle.sil_lexer.specs.declared.token.TokenKind.{TokenKind}
use Rattle.sil_lexer.specs.declared.token.LexRefusal.{LexRefusal}
use Rattle.sil_lexer.specs.declared.token.LexRefusal.TheVariants.{BadByte, UnclosedText, NameTooLong}
use Rattle.sil_ast.specs.TextBytes.Bytes.{is_in_line, is_blank, is_text_byte}
use Rattle.sil_lexer.specs.Spelling.{Spells, IsSpelled, begins_with, name_length}
use Rattle.sil_lexer.specs.Places.{place_before}

-- a token, where it begins, and its bytes
pub record Lexeme : Type 0 where
  pub kind : TokenKind
  pub place : Place
  pub spelling : List ℕ

-- blanks and comments stand before the rest. A comment is `//`, the bytes of its line, and a line feed or the end; 47 is `/`
pub data Skips : List ℕ → List ℕ → Type 0 where
  nothing : (rest : List ℕ) → Skips rest rest
  blank : (byte : ℕ) (bytes rest : List ℕ) → IsTrue (is_blank byte) → Skips bytes rest → Skips (byte ∷ bytes) rest
  comment : (line bytes rest : List ℕ) → IsTrue (list_all is_in_line line) → Skips bytes rest
      → Skips (47 ∷ 47 ∷ line ++ 10 ∷ bytes) rest
  last_comment : (line : List ℕ) → IsTrue (list_all is_in_line line) → Skips (47 ∷ 47 ∷ line) []

abbrev pub begins_comment : List ℕ → Bool
begins_comment [] = false
begins_comment (b ∷ bytes) = b == 47 && begins_with (λ next. next == 47) bytes

-- a blank or a comment is at the front
abbrev pub begins_skipped : List ℕ → Bool
begins_skipped bytes = begins_with is_blank bytes || begins_comment bytes

-- a byte with which no blank, comment, text or other token begins is at the front
pub record BeginsNothing (rest : List ℕ) : Type 0 where
  pub some_byte : rest ≢ []
  pub nothing_skipped : IsFalse (begins_skipped rest)
  pub no_text : IsFalse (begins_with (λ b. b == 34) rest)
  pub no_token : (kind : TokenKind) (spelling after : List ℕ) → Spells kind spelling → spelling ++ after ≢ rest

-- no token can be taken from the front of the rest of the text
pub data Stops (text : List ℕ) : List ℕ → LexRefusal → Type 0 where
  bad_byte : (rest : List ℕ) → BeginsNothing rest → Stops text rest (BadByte (place_before text rest))
  bad_text_byte : (inside after : List ℕ) (byte : ℕ) → IsTrue (list_all is_text_byte inside)
      → IsFalse (is_text_byte byte) → byte ≢ 34 → byte ≢ 10
      → Stops text (34 ∷ inside ++ byte ∷ after) (BadByte (place_before text (byte ∷ after)))
  unclosed_at_line_end : (inside after : List ℕ) → IsTrue (list_all is_text_byte inside)
      → Stops text (34 ∷ inside ++ 10 ∷ after) (UnclosedText (place_before text (34 ∷ inside ++ 10 ∷ after)))
  unclosed_at_end : (inside : List ℕ) → IsTrue (list_all is_text_byte inside)
      → Stops text (34 ∷ inside) (UnclosedText (place_before text (34 ∷ inside)))
  name_too_long : (kind : TokenKind) (spelling after : List ℕ) → IsSpelled kind spelling after → NAME_BYTES < name_length kind spelling
      → Stops text (spelling ++ after) (NameTooLong (place_before text (spelling ++ after)))

-- what is left of the text has these tokens and this stop
pub data Lexes (text : List ℕ) : List ℕ → List Lexeme → Option LexRefusal → Type 0 where
  end : (left : List ℕ) → Skips left [] → Lexes text left [] None
  token : (left spelling after : List ℕ) (kind : TokenKind) (lexemes : List Lexeme) (stop : Option LexRefusal)
      → Skips left (spelling ++ after) → IsSpelled kind spelling after → name_length kind spelling ≤ NAME_BYTES
      → Lexes text after lexemes stop
      → Lexes text left (record { kind = kind; place = place_before text (spelling ++ after); spelling = spelling } ∷ lexemes) stop
  stop : (left rest : List ℕ) (refusal : LexRefusal) → Skips left rest → Stops text rest refusal
      → Lexes text left [] (Some refusal)
