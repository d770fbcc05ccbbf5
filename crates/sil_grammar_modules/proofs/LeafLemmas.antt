-- Tokens inside a text, and the parts of it that are kept of them.
use Rattle.std.proofs.Common.{◌≡◌, ℕ, ◌+◌, ◌-◌, ◌<◌, List, length, take, drop, get_or, ap, sym, ◌∙◌, arith}
use Rattle.std.proofs.lemmas.List.{drop-drop, drop-take}
use Rattle.std.proofs.lemmas.List.Elements.{All-get_or}
use Rattle.std.specs.Prelude.{All, slice_range}
use Rattle.sil_lexer.specs.declared.token.Token.{Token}
use Rattle.sil_lexer.specs.declared.token.TokenKind.TheVariants.{Word}
use Rattle.sil_lexer.specs.inner.Lexing.{IsInside}

pub some_token : Token
some_token = record { kind = Word; place = record { offset = 0; line = 0; column = 0 }; length = 0 }

-- a part without its first byte is the part from the next byte on
pub sigil-part : (text : List ℕ) (from count : ℕ) → 0 < count
    → drop 1 (slice_range text from (from + count)) ≡ slice_range text (from + 1) (from + 1 + (count - 1))
sigil-part text from count some =
    let long : from + count - from ≡ 1 + (count - 1) = omega (arith, some) in
    let less : from + 1 + (count - 1) - (from + 1) ≡ count - 1 = omega arith in
    ap (λ n. drop 1 (take n (drop from text))) long
    ∙ drop-take 1 (count - 1) (drop from text)
    ∙ ap (take (count - 1)) (drop-drop 1 from text)
    ∙ ap (λ n. take n (drop (from + 1) text)) (sym less)

-- each token that stands inside the text
pub token_inside : (text : List ℕ) (tokens : List Token) (i : ℕ) → All (IsInside text) tokens → i < length tokens → IsInside text (get_or tokens i some_token)
token_inside text tokens i inside below = All-get_or (IsInside text) tokens i some_token below inside
