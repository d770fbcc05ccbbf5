-- The first bad place of a text: the least of the place where its tokens stop and of the place of the first token, or
-- of the end of the text, with which no list that has the shape of a module goes on.
use Rattle.std.specs.Prelude.{◌≡◌, ◌⊎◌, ℕ, ◌<◌, ◌≤◌, List, length, map, Option, Some, None, slice_get}
use Rattle.std.specs.Option.{option_map_or}
use Rattle.sil_ast.specs.declared.place.Place.{Place}
use Rattle.sil_lexer.specs.declared.token.LexRefusal.{LexRefusal}
use Rattle.sil_lexer.specs.declared.token.LexRefusal.TheVariants as stop
use Rattle.sil_lexer.specs.Lexes.{Lexeme, Lexes}
use Rattle.sil_lexer.specs.Places.{place_of}
use Rattle.sil_grammar_shape.specs.Derivation as derivation
use Rattle.sil_grammar_shape.specs.Unsupported.{IsUnsupported}
use Rattle.sil_grammar.specs.declared.first_bad.BadKind.{BadKind}
use Rattle.sil_grammar.specs.declared.first_bad.BadKind.TheVariants.{BadByte, UnclosedText, NameTooLong, Unsupported, Unexpected}
use Rattle.sil_grammar.specs.declared.first_bad.BadPlace.{BadPlace}
use Rattle.sil_grammar.specs.Classes.{token_class}

-- where the i-th token stands, or the end of the text behind the last one
abbrev pub token_place : List ℕ → List Lexeme → ℕ → Place
token_place text lexemes i = option_map_or (λ l. l.place) (slice_get lexemes i) (place_of text (length text))

-- the tokens of the text reach its end, and the grammar derives them
pub record HasShape (text : List ℕ) : Type 0 where
  pub lexemes : List Lexeme
  pub lexed : Lexes text text lexemes None
  pub shape : derivation.HasShape (map token_class lexemes)

-- the tokens up to and with the i-th begin no list that has shape, and those before it do.
-- Behind the last token the end of the text stands for a token, where the tokens reach it
pub record IsBadToken (text : List ℕ) (lexemes : List Lexeme) (i : ℕ) : Type 0 where
  pub stop : Option LexRefusal
  pub lexed : Lexes text text lexemes stop
  pub first_bad : derivation.IsFirstBad (map token_class lexemes) i
  pub reached : i ≡ length lexemes → stop ≡ None

-- where the tokens stop, and why
abbrev pub bad_stop : LexRefusal → BadPlace
bad_stop (stop.BadByte at) = record { kind = BadByte; place = at }
bad_stop (stop.UnclosedText at) = record { kind = UnclosedText; place = at }
bad_stop (stop.NameTooLong at) = record { kind = NameTooLong; place = at }

pub data IsBadPlace (text : List ℕ) : BadPlace → Type 0 where
  lexical : (lexemes : List Lexeme) (refusal : LexRefusal) → Lexes text text lexemes (Some refusal)
      → IsBadPlace text (bad_stop refusal)
  unsupported : (lexemes : List Lexeme) (i : ℕ) → IsBadToken text lexemes i → IsUnsupported (map token_class lexemes) i
      → IsBadPlace text (record { kind = Unsupported; place = token_place text lexemes i })
  unexpected : (lexemes : List Lexeme) (i : ℕ) → IsBadToken text lexemes i
      → IsBadPlace text (record { kind = Unexpected; place = token_place text lexemes i })

-- at one place the lexical stop comes first, and `Unsupported` before `Unexpected`
abbrev pub rank : BadKind → ℕ
rank BadByte = 0
rank UnclosedText = 0
rank NameTooLong = 0
rank Unsupported = 1
rank Unexpected = 2

abbrev pub IsNoLater : BadPlace → BadPlace → Type 0
IsNoLater bad other = (bad.place.offset < other.place.offset) ⊎ ((bad.place ≡ other.place) × (rank bad.kind ≤ rank other.kind))

pub record IsFirstBadPlace (text : List ℕ) (bad : BadPlace) : Type 0 where
  pub is_bad : IsBadPlace text bad
  pub least : (other : BadPlace) → IsBadPlace text other → IsNoLater bad other
