-- Tokens are in order, and the stop is behind them.
use Rattle.std.proofs.Common.{◌≡◌, ℕ, ◌+◌, ◌-◌, ◌≤◌, List, [], ◌∷◌, ◌++◌, length, map, drop, refl, ap, ◌∙◌, subst, arith, length-append, length-drop, length-take}
use Rattle.std.specs.Prelude.{Option, All}
use Rattle.std.proofs.lemmas.List.Elements.{All-head, All-tail}
use Rattle.sil_ast.specs.declared.place.Place.{Place}
use Rattle.sil_lexer.specs.declared.token.LexRefusal.{LexRefusal}
use Rattle.sil_lexer.specs.declared.token.Token.{Token}
use Rattle.sil_lexer.specs.Places.{place_before}
use Rattle.sil_lexer.specs.Lexes.{Lexeme, Skips, nothing, blank, comment, last_comment, Stops, bad_byte, bad_text_byte, unclosed_at_line_end, unclosed_at_end, name_too_long, Lexes, end, token, stop}
use Rattle.sil_lexer.specs.inner.Lexing.{lexeme_of, spelling_of, IsInside, refusal_place, AreInOrder, IsLexedInOrder}

-- what is behind blanks and comments is no longer than what begins with them
skips_shorter : (left rest : List ℕ) → Skips left rest → length rest ≤ length left
skips_shorter left rest (nothing _) = omega arith
skips_shorter left rest (blank b bytes _ _ skips) = omega (arith, skips_shorter bytes rest skips)
skips_shorter left rest (comment line bytes _ _ skips) = omega (arith, skips_shorter bytes rest skips, length-append line (10 ∷ bytes))
skips_shorter left rest (last_comment line _) = omega arith

-- a refusal is not before the rest
stops_behind : (text rest : List ℕ) (refusal : LexRefusal) → Stops text rest refusal → length text - length rest ≤ (refusal_place refusal).offset
stops_behind text rest refusal (bad_byte _ _) = omega arith
stops_behind text rest refusal (bad_text_byte inside after byte _ _ _ _) = omega (arith, length-append inside (byte ∷ after))
stops_behind text rest refusal (unclosed_at_line_end _ _ _) = omega arith
stops_behind text rest refusal (unclosed_at_end _ _) = omega arith
stops_behind text rest refusal (name_too_long _ _ _ _ _) = omega arith

-- a token inside the text has as many bytes as its spelling
pub length-spelling : (text : List ℕ) (t : Token) → IsInside text t → length (spelling_of text t) ≡ t.length
length-spelling text t inside =
    let rest = drop t.place.offset text in
    let size = length-drop t.place.offset text in
    let front = length-take (t.place.offset + t.length - t.place.offset) rest in
    omega arith

in_order_from : (text left : List ℕ) (lexemes : List Lexeme) (stop' : Option LexRefusal) (tokens : List Token) → Lexes text left lexemes stop'
    → lexemes ≡ map (lexeme_of text) tokens → All (IsInside text) tokens → length left ≤ length text → AreInOrder (length text - length left) tokens stop'
in_order_from text left lexemes stop' [] (end _ _) same inside within = tt
in_order_from text left lexemes stop' (t ∷ tokens) (end _ _) same inside within = absurd (cc)
in_order_from text left lexemes stop' [] (token _ _ _ _ _ _ _ _ _ _) same inside within = absurd (cc)
in_order_from text left lexemes stop' (t ∷ tokens) (token _ spelling after kind more _ skips _ _ next) same inside within =
    let rest = spelling ++ after in
    let here : Lexeme = record { kind = kind; place = place_before text rest; spelling = spelling } in
    let first : here ≡ lexeme_of text t = cc in
    let place : place_before text rest ≡ t.place = ap (λ (l : Lexeme). l.place) first in
    let bytes : spelling ≡ spelling_of text t = ap (λ (l : Lexeme). l.spelling) first in
    let later : more ≡ map (lexeme_of text) tokens = cc in
    let offset = ap (λ (p : Place). p.offset) place in
    let size = ap length bytes ∙ length-spelling text t (All-head (IsInside text) t tokens inside) in
    let whole = length-append spelling after in
    let shorter = skips_shorter left rest skips in
    let from : length text - length after ≡ t.place.offset + t.length = omega arith in
    let ordered = in_order_from text after more stop' tokens next later (All-tail (IsInside text) t tokens inside) (omega arith) in
    (omega arith, subst (λ o. AreInOrder o tokens stop') from ordered)
in_order_from text left lexemes stop' [] (stop _ rest refusal skips stops) same inside within =
    omega (arith, skips_shorter left rest skips, stops_behind text rest refusal stops)
in_order_from text left lexemes stop' (t ∷ tokens) (stop _ _ _ _ _) same inside within = absurd (cc)

pub in_order : IsLexedInOrder
in_order text lexing is_lexing =
    let zero : length text - length text ≡ 0 = omega arith in
    subst (λ o. AreInOrder o lexing.tokens lexing.stop) zero
    (in_order_from text text _ lexing.stop lexing.tokens is_lexing.lexed refl is_lexing.inside (omega arith))
