-- The tokens found so far, before those of what is left, are the tokens of the text.
use Rattle.std.proofs.Common.{◌≡◌, ℕ, ◌+◌, ◌-◌, ◌≤◌, Bool, true, false, not, List, [], ◌∷◌, ◌++◌, length, take, drop, map, refl, sym, ap, ◌∙◌}
use Rattle.std.proofs.Common.{subst, arith, append_assoc, length-drop, get_or-take, drop-drop, take-append-drop, length-take-le}
use Rattle.std.specs.Prelude.{Option, Some, None, All}
use Rattle.std.specs.List.{list_all}
use Rattle.std.specs.Char.{is_ascii_digit}
use Rattle.std.proofs.lemmas.List.{append-nil, map_push, drop_all}
use Rattle.std.proofs.lemmas.List.Elements.{All-get_or, All-push}
use Rattle.std.proofs.lemmas.List.Folds.{list_all-append}
use Rattle.std.proofs.lemmas.List.Sums.{AllPass-from_list_all}
use Rattle.std.proofs.lemmas.Bool.{and_from, and_parts, eqb-true, false≢true, false_from_ne_true, not-true}
use Rattle.sil_ast.specs.declared.place.Place.{Place}
use Rattle.sil_lexer.specs.declared.token.TokenKind.{TokenKind}
use Rattle.sil_lexer.specs.declared.token.LexRefusal.{LexRefusal}
use Rattle.sil_lexer.specs.declared.token.Token.{Token}
use Rattle.sil_ast.specs.TextBytes.Bytes.{is_line_feed, is_in_line, is_word_start, is_name_byte, is_text_byte, is_punctuation}
use Rattle.sil_lexer.specs.Places.{place_before, ahead_of, IsPlaceIn}
use Rattle.sil_lexer.specs.Spelling.{Spells, word, at_name, percent, number, negative, quoted, punctuation, arrow}
use Rattle.sil_lexer.specs.Lexes.{Lexeme, Skips, nothing, Stops, Lexes, end, token, stop}
use Rattle.sil_lexer.specs.inner.Lexing.{Lexing, spelling_of, lexeme_of, IsInside, IsLexingOf}
use Rattle.sil_lexer.specs.inner.Scan.{SkipsTo, IsTokenAt}
use Rattle.sil_lexer.proofs.PlaceLemmas.{place_ahead}
use Rattle.sil_lexer.proofs.SkipLemmas.{skips_on}
use Rattle.sil_lexer.proofs.SpellLemmas.{Takes}
use Rattle.sil_lexer.proofs.StopLemmas.{place_before-rest}

-- bytes that pass a test which a line feed doesn't pass stay on their line
module _ (p : ℕ → Bool) (no_feed : p 10 ≡ false) where
  byte_in_line : (b : ℕ) → p b ≡ true → is_in_line b ≡ true
  byte_in_line b passes = ap not (false_from_ne_true (is_line_feed b) (λ feed. false≢true (sym no_feed ∙ sym (ap p (eqb-true b 10 feed)) ∙ passes)))

  bytes_in_line : (bytes : List ℕ) → list_all p bytes ≡ true → list_all is_in_line bytes ≡ true
  bytes_in_line [] pass = refl
  bytes_in_line (b ∷ bytes) pass =
      let parts = and_parts (p b) (list_all p bytes) pass in
      and_from _ _ (byte_in_line b parts.0) (bytes_in_line bytes parts.1)

-- no spelling has a line feed in it
spelling_in_line : (kind : TokenKind) (spelling : List ℕ) → Spells kind spelling → list_all is_in_line spelling ≡ true
spelling_in_line kind spelling (word b more first passes) = and_from _ _ (byte_in_line is_word_start refl b first) (bytes_in_line is_name_byte refl more passes)
spelling_in_line kind spelling (at_name b more passes) = bytes_in_line is_name_byte refl (b ∷ more) passes
spelling_in_line kind spelling (percent b more passes) = bytes_in_line is_name_byte refl (b ∷ more) passes
spelling_in_line kind spelling (number b more passes) = bytes_in_line is_ascii_digit refl (b ∷ more) passes
spelling_in_line kind spelling (negative b more passes) = bytes_in_line is_ascii_digit refl (b ∷ more) passes
spelling_in_line kind spelling (quoted inside passes) = list_all-append is_in_line inside (34 ∷ []) ∙ and_from _ _ (bytes_in_line is_text_byte refl inside passes) refl
spelling_in_line kind spelling (punctuation b passes) = and_from _ _ (byte_in_line is_punctuation refl b passes) refl
spelling_in_line kind spelling arrow = refl

-- the place behind a token
pub token_end : (text : List ℕ) (at : Place) (kind : TokenKind) (n : ℕ) → IsPlaceIn text at → n ≤ length (drop at.offset text)
    → Takes kind n (drop at.offset text) → IsPlaceIn text (ahead_of at n)
token_end text at kind n placed inside takes =
    let rest = drop at.offset text in
    let size = length-drop at.offset text in
    let within = placed.inside in
    let passes = AllPass-from_list_all is_in_line (take n rest) (spelling_in_line kind (take n rest) takes.spelled) in
    let front = length-take-le n rest inside in
    place_ahead text at n placed (omega arith)
    (λ k below. ap is_line_feed (sym (get_or-take n rest k 0 below)) ∙ not-true _ (All-get_or (λ b. is_in_line b ≡ true) (take n rest) k 0 (omega arith) passes))

-- what is skipped before tokens changes nothing of them
skip_lexes : (text left rest : List ℕ) (lexemes : List Lexeme) (stop' : Option LexRefusal) → Skips left rest → Lexes text rest lexemes stop' → Lexes text left lexemes stop'
skip_lexes text left rest lexemes stop' skips (end _ skipped) = end left (skips_on left rest [] skips skipped)
skip_lexes text left rest lexemes stop' skips (token _ spelling after kind more _ skipped spelled short next) =
    token left spelling after kind more stop' (skips_on left rest (spelling ++ after) skips skipped) spelled short next
skip_lexes text left rest lexemes stop' skips (stop _ behind refusal skipped stops) = stop left behind refusal (skips_on left rest behind skips skipped) stops

-- these tokens come before those of what is left at the place
abbrev pub LexedBefore : List ℕ → List Token → Place → Type 0
LexedBefore text tokens at =
    (lexemes : List Lexeme) (stop' : Option LexRefusal) → Lexes text (drop at.offset text) lexemes stop' → Lexes text text (map (lexeme_of text) tokens ++ lexemes) stop'

pub lexed_none : (text : List ℕ) (start at : Place) → start.offset ≡ 0 → SkipsTo text start at → LexedBefore text [] at
lexed_none text start at is_start skips lexemes stop' lexes =
    skip_lexes text text (drop at.offset text) lexemes stop' (subst (λ o. Skips (drop o text) (drop at.offset text)) is_start skips.skipped) lexes

module _ (text : List ℕ) (tokens : List Token) (at : Place) (placed : IsPlaceIn text at) (before : LexedBefore text tokens at) where
  -- one token more
  pub lexed_more : (found : Token) (next : Place) → IsTokenAt (drop at.offset text) at found → SkipsTo text (ahead_of at found.length) next
      → LexedBefore text (tokens ++ found ∷ []) next
  lexed_more found next is_token skips lexemes stop' lexes =
      let rest = drop at.offset text in
      let n = found.length in
      let behind = drop-drop n at.offset text in
      let after = skip_lexes text (drop n rest) (drop next.offset text) lexemes stop' (subst (λ bs. Skips bs (drop next.offset text)) (sym behind) skips.skipped) lexes in
      let whole = take-append-drop n rest in
      let here = token rest (take n rest) (drop n rest) found.kind lexemes stop' (subst (Skips rest) (sym whole) (nothing rest)) is_token.spelled is_token.short after in
      let place : place_before text (take n rest ++ drop n rest) ≡ found.place =
      ap (place_before text) whole ∙ place_before-rest text rest at placed refl ∙ sym is_token.placed in
      let count : found.place.offset + n - found.place.offset ≡ n = omega arith in
      let spelling : take n rest ≡ spelling_of text found =
      (λ i. take (sym count i) (drop (sym (ap (λ (p : Place). p.offset) is_token.placed) i) text)) in
      let here' = subst (λ (l : Lexeme). Lexes text rest (l ∷ lexemes) stop') (λ i. record { kind = found.kind; place = place i; spelling = spelling i }) here in
      let regroup : map (lexeme_of text) tokens ++ lexeme_of text found ∷ lexemes ≡ map (lexeme_of text) (tokens ++ found ∷ []) ++ lexemes =
      sym (append_assoc (map (lexeme_of text) tokens) (lexeme_of text found ∷ []) lexemes) ∙ ap (λ ls. ls ++ lexemes) (sym (map_push (lexeme_of text) tokens found)) in
      subst (λ ls. Lexes text text ls stop') regroup (before (lexeme_of text found ∷ lexemes) stop' here')

  -- nothing is left
  pub lexed_all : length text ≤ at.offset → Lexes text text (map (lexeme_of text) tokens) None
  lexed_all ends =
      subst (λ ls. Lexes text text ls None) (append-nil (map (lexeme_of text) tokens))
      (before [] None (subst (λ bs. Lexes text bs [] None) (sym (drop_all at.offset text ends)) (end [] (nothing []))))

  -- no token can be taken
  pub lexed_up_to : (refusal : LexRefusal) → Stops text (drop at.offset text) refusal → Lexes text text (map (lexeme_of text) tokens) (Some refusal)
  lexed_up_to refusal stops =
      subst (λ ls. Lexes text text ls (Some refusal)) (append-nil (map (lexeme_of text) tokens))
      (before [] (Some refusal) (stop (drop at.offset text) (drop at.offset text) refusal (nothing _) stops))

pub inside_more : (text : List ℕ) (tokens : List Token) (at : Place) (found : Token) → IsPlaceIn text at → All (IsInside text) tokens
    → IsTokenAt (drop at.offset text) at found → All (IsInside text) (tokens ++ found ∷ [])
inside_more text tokens at found placed inside is_token =
    let size = length-drop at.offset text in
    let within = placed.inside in
    let offset = ap (λ (p : Place). p.offset) is_token.placed in
    All-push (IsInside text) tokens found inside (omega (arith, is_token.inside))

-- the lexing that a call made
pub lexing_is : (text : List ℕ) (lexing : Lexing) (tokens : List Token) (stop' : Option LexRefusal) → lexing.tokens ≡ tokens → lexing.stop ≡ stop'
    → Lexes text text (map (lexeme_of text) tokens) stop' → All (IsInside text) tokens → IsLexingOf text lexing
lexing_is text lexing tokens stop' same_tokens same_stop lexed inside = record {
  lexed = subst (λ ts. Lexes text text (map (lexeme_of text) ts) lexing.stop) (sym same_tokens) (subst (Lexes text text (map (lexeme_of text) tokens)) (sym same_stop) lexed);
  inside = subst (All (IsInside text)) (sym same_tokens) inside;
}
