-- Where no token can be taken, and that the refusal stands at its place of the text.
use Rattle.std.proofs.Common.{◌≡◌, ℕ, zero, suc, ◌+◌, ◌-◌, ◌<◌, Bool, true, false, not, List, [], ◌∷◌, ◌++◌, length, get_or, take, drop}
use Rattle.std.proofs.Common.{refl, sym, ap, ◌∙◌, subst, arith, length-drop, get_or-drop, drop-drop, take-append-drop}
use Rattle.std.specs.Prelude.{◌≢◌, ◌==◌, ◌||◌, ◌&&◌}
use Rattle.std.specs.List.{prefix_len, list_all}
use Rattle.std.specs.Char.{is_ascii_digit}
use Rattle.std.proofs.lemmas.List.{drop_more, take_all}
use Rattle.std.proofs.lemmas.List.Sums.{prefix_len_stops, prefix_len_passes}
use Rattle.std.proofs.lemmas.Bool.{or_left, or_right, or_parts, or_from, and_parts, and_left, not-true, false≢true, false_from_ne_true, eqb-true, ne_eqb}
use Rattle.sil_ast.specs.declared.place.Place.{Place}
use Rattle.sil_lexer.specs.declared.token.TokenKind.{TokenKind}
use Rattle.sil_lexer.specs.declared.token.LexRefusal.{LexRefusal}
use Rattle.sil_lexer.specs.declared.token.LexRefusal.TheVariants.{BadByte, UnclosedText, NameTooLong}
use Rattle.sil_ast.specs.TextBytes.Bytes.{is_line_feed, is_word_start, is_name_byte, is_text_byte, is_punctuation}
use Rattle.sil_lexer.specs.Places.{place_of, place_before, ahead_of, IsPlaceIn}
use Rattle.sil_lexer.specs.Spelling.{Spells, word, at_name, percent, number, negative, quoted, punctuation, arrow, begins_with, name_length}
use Rattle.sil_lexer.specs.Lexes.{Stops, bad_byte, bad_text_byte, unclosed_at_line_end, unclosed_at_end, name_too_long, begins_skipped}
use Rattle.sil_lexer.specs.inner.Scan.{is_sigil, begins_longer}
use Rattle.sil_lexer.proofs.PlaceLemmas.{place_ahead}
use Rattle.sil_lexer.proofs.RunLemmas.{run_passes, run_none, split_at}
use Rattle.sil_lexer.proofs.SpellLemmas.{Takes, at_sigil, opened}

-- the refusal, in any text that has the rest at the place
abbrev pub StopsAt : List ℕ → Place → LexRefusal → Type 0
StopsAt rest at refusal = (text : List ℕ) → IsPlaceIn text at → drop at.offset text ≡ rest → Stops text rest refusal

-- the place where the rest begins
pub place_before-rest : (text rest : List ℕ) (at : Place) → IsPlaceIn text at → drop at.offset text ≡ rest → place_before text rest ≡ at
place_before-rest text rest at placed is_rest =
    let size = sym (length-drop at.offset text) ∙ ap length is_rest in
    let inside = placed.inside in
    let offset : length text - length rest ≡ at.offset = omega arith in
    ap (place_of text) offset ∙ sym placed.exact

-- a refusal at the very front stands at the place
stops_here : (refusal : Place → LexRefusal) (rest : List ℕ) (at : Place) → ((text : List ℕ) → Stops text rest (refusal (place_before text rest))) → StopsAt rest at (refusal at)
stops_here refusal rest at stops text placed is_rest =
    subst (λ p. Stops text rest (refusal p)) (place_before-rest text rest at placed is_rest) (stops text)

pub stops_at_long_name : (rest : List ℕ) (at : Place) (kind : TokenKind) (n : ℕ) → Takes kind n rest → 255 < name_length kind (take n rest)
    → StopsAt rest at (NameTooLong at)
stops_at_long_name rest at kind n takes long =
    stops_here NameTooLong rest at
    (λ text. subst (λ bs. Stops text bs (NameTooLong (place_before text bs))) (take-append-drop n rest) (name_too_long kind (take n rest) (drop n rest) takes long))

-- whether a token of any kind may stand at the front
begins_token : List ℕ → Bool
begins_token [] = false
begins_token (b ∷ bytes) =
    is_word_start b || ((b == 64 || b == 37) && begins_with is_name_byte bytes) || is_ascii_digit b
    || (b == 45 && (begins_with is_ascii_digit bytes || begins_with (λ next. next == 62) bytes)) || b == 34 || is_punctuation b

-- a list that begins with a spelling begins with a token
spelling_begins : (kind : TokenKind) (spelling after : List ℕ) → Spells kind spelling → begins_token (spelling ++ after) ≡ true
unfolding begins_token
spelling_begins kind spelling after (word b more first _) = or_left _ _ (or_left _ _ (or_left _ _ (or_left _ _ (or_left _ _ first))))
spelling_begins kind spelling after (at_name b more passes) = rw (and_parts (is_name_byte b) (list_all is_name_byte more) passes).0 refl
spelling_begins kind spelling after (percent b more passes) = rw (and_parts (is_name_byte b) (list_all is_name_byte more) passes).0 refl
spelling_begins kind spelling after (number b more passes) =
    or_left _ _ (or_left _ _ (or_left _ _ (or_right _ _ (and_parts (is_ascii_digit b) (list_all is_ascii_digit more) passes).0)))
spelling_begins kind spelling after (negative b more passes) = rw (and_parts (is_ascii_digit b) (list_all is_ascii_digit more) passes).0 refl
spelling_begins kind spelling after (quoted inside _) = refl
spelling_begins kind spelling after (punctuation b passes) = or_right _ _ passes
spelling_begins kind spelling after arrow = refl

-- and so no spelling begins a list that begins with no token
no_spelling : (rest : List ℕ) → begins_token rest ≡ false → (kind : TokenKind) (spelling after : List ℕ) → Spells kind spelling → spelling ++ after ≢ rest
no_spelling rest none kind spelling after spells same = false≢true (sym none ∙ ap begins_token (sym same) ∙ spelling_begins kind spelling after spells)

stops_at_nothing : (rest : List ℕ) (at : Place) → rest ≢ [] → begins_skipped rest ≡ false → begins_with (λ b. b == 34) rest ≡ false → begins_token rest ≡ false
    → StopsAt rest at (BadByte at)
stops_at_nothing rest at some no_gap no_text none =
    stops_here BadByte rest at (λ text. bad_byte rest (record { some_byte = some; nothing_skipped = no_gap; no_text = no_text; no_token = no_spelling rest none }))

pub stops_at_sigil : (at : Place) (kind : TokenKind) (rest : List ℕ) → begins_with (is_sigil kind) rest ≡ true → prefix_len is_name_byte (drop 1 rest) ≡ 0
    → StopsAt rest at (BadByte at)
unfolding begins_token
stops_at_sigil at =
    at_sigil (λ kind rest. prefix_len is_name_byte (drop 1 rest) ≡ 0 → StopsAt rest at (BadByte at))
    (λ name none. stops_at_nothing (64 ∷ name) at (λ same. cc) refl refl (rw (run_none is_name_byte name none) refl))
    (λ name none. stops_at_nothing (37 ∷ name) at (λ same. cc) refl refl (rw (run_none is_name_byte name none) refl))

-- where no second byte is `>`
pub no_arrow : (rest : List ℕ) → (1 < length rest → get_or rest 1 0 ≢ 62) → begins_with (λ next. next == 62) (drop 1 rest) ≡ false
no_arrow [] differs = refl
no_arrow (a ∷ []) differs = refl
no_arrow (a ∷ b ∷ rest) differs = ne_eqb b 62 (differs (omega arith))

pub stops_at_minus : (at : Place) (rest : List ℕ) → begins_with (λ b. b == 45) rest ≡ true → prefix_len is_ascii_digit (drop 1 rest) ≡ 0
    → begins_with (λ next. next == 62) (drop 1 rest) ≡ false → StopsAt rest at (BadByte at)
unfolding begins_token
stops_at_minus at rest first no_digit not_arrow =
    subst (λ bs. StopsAt bs at (BadByte at)) (sym (opened 45 rest first))
    (stops_at_nothing (45 ∷ drop 1 rest) at (λ same. cc) refl refl (rw (run_none is_ascii_digit (drop 1 rest) no_digit, not_arrow) refl))

pub stops_at_byte : (at : Place) (rest : List ℕ) → begins_skipped rest ≡ false → begins_with (λ b. not (begins_longer b) && not (is_punctuation b)) rest ≡ true
    → StopsAt rest at (BadByte at)
unfolding begins_token
stops_at_byte at [] no_gap neither = absurd (false≢true neither)
stops_at_byte at (b ∷ rest) no_gap neither =
    let parts = and_parts (not (begins_longer b)) (not (is_punctuation b)) neither in
    let no_longer : begins_longer b ≡ false = not-true _ parts.0 in
    let no_punctuation : is_punctuation b ≡ false = not-true _ parts.1 in
    let quote = or_parts _ (b == 34) no_longer in
    let minus = or_parts _ (b == 45) quote.0 in
    let digit = or_parts _ (is_ascii_digit b) minus.0 in
    let at_sign = or_parts _ (b == 64) digit.0 in
    let percent_sign = or_parts (is_word_start b) (b == 37) at_sign.0 in
    let no_sigil = and_left _ (begins_with is_name_byte rest) (or_from _ _ at_sign.1 percent_sign.1) in
    let no_minus = and_left _ (begins_with is_ascii_digit rest || begins_with (λ next. next == 62) rest) minus.1 in
    stops_at_nothing (b ∷ rest) at (λ same. cc) no_gap quote.1
    (or_from _ _ (or_from _ _ (or_from _ _ (or_from _ _ (or_from _ _ percent_sign.0 no_sigil) digit.1) no_minus) quote.1) no_punctuation)

-- a byte of a text is no line feed
text_byte_in_line : (b : ℕ) → is_text_byte b ≡ true → is_line_feed b ≡ false
text_byte_in_line b passes = false_from_ne_true _ (λ feed. false≢true (sym (ap is_text_byte (eqb-true b 10 feed)) ∙ passes))

-- behind a quote stand n bytes of a text
module _ (rest : List ℕ) (at : Place) (n : ℕ) (quote : begins_with (λ b. b == 34) rest ≡ true) (count : n ≡ prefix_len is_text_byte (drop 1 rest)) where
  bytes_of_text : list_all is_text_byte (take n (drop 1 rest)) ≡ true
  bytes_of_text = subst (λ m. list_all is_text_byte (take m (drop 1 rest)) ≡ true) (sym count) (run_passes is_text_byte (drop 1 rest))

  text_splits : 1 + n < length rest → 34 ∷ take n (drop 1 rest) ++ get_or rest (1 + n) 0 ∷ drop (n + 1) (drop 1 rest) ≡ rest
  text_splits more =
      let size = length-drop 1 rest in
      ap (λ b. 34 ∷ take n (drop 1 rest) ++ b ∷ drop (n + 1) (drop 1 rest)) (sym (get_or-drop 1 rest n 0))
      ∙ ap (λ bs. 34 ∷ bs) (split_at (drop 1 rest) n (omega arith)) ∙ sym (opened 34 rest quote)

  pub stops_at_end : 1 + n ≡ length rest → StopsAt rest at (UnclosedText at)
  stops_at_end ends =
      let size = length-drop 1 rest in
      let whole : take n (drop 1 rest) ≡ drop 1 rest = take_all n (drop 1 rest) (omega arith) in
      subst (λ bs. StopsAt bs at (UnclosedText at)) (sym (opened 34 rest quote))
      (stops_here UnclosedText (34 ∷ drop 1 rest) at (λ source. unclosed_at_end (drop 1 rest) (subst (λ bs. list_all is_text_byte bs ≡ true) whole bytes_of_text)))

  pub stops_at_line_end : 1 + n < length rest → get_or rest (1 + n) 0 ≡ 10 → StopsAt rest at (UnclosedText at)
  stops_at_line_end more feed =
      let split : 34 ∷ take n (drop 1 rest) ++ 10 ∷ drop (n + 1) (drop 1 rest) ≡ rest =
      ap (λ b. 34 ∷ take n (drop 1 rest) ++ b ∷ drop (n + 1) (drop 1 rest)) (sym feed) ∙ text_splits more in
      subst (λ bs. StopsAt bs at (UnclosedText at)) split
      (stops_here UnclosedText _ at (λ source. unclosed_at_line_end (take n (drop 1 rest)) (drop (n + 1) (drop 1 rest)) bytes_of_text))

  -- no byte before the one that ends the run is a line feed
  text_in_line : (k : ℕ) → k < 1 + n → is_line_feed (get_or rest k 0) ≡ false
  text_in_line k below =
      ap (λ bs. is_line_feed (get_or bs k 0)) (opened 34 rest quote) ∙ in_line k (omega (arith, count)) where
        in_line : (k : ℕ) → k < 1 + prefix_len is_text_byte (drop 1 rest) → is_line_feed (get_or (34 ∷ drop 1 rest) k 0) ≡ false
        in_line zero below = refl
        in_line (suc k) below = text_byte_in_line _ (prefix_len_passes is_text_byte (drop 1 rest) k 0 (omega arith))

  pub stops_at_bad_text_byte : 1 + n < length rest → get_or rest (1 + n) 0 ≢ 10 → get_or rest (1 + n) 0 ≢ 34 → StopsAt rest at (BadByte (ahead_of at (1 + n)))
  stops_at_bad_text_byte more no_feed no_quote source placed is_rest =
      let size = length-drop 1 rest in
      let left = sym (length-drop at.offset source) ∙ ap length is_rest in
      let byte = get_or rest (1 + n) 0 in
      let after = drop (n + 1) (drop 1 rest) in
      let fails : is_text_byte byte ≡ false =
      ap is_text_byte (sym (get_or-drop 1 rest n 0) ∙ ap (λ m. get_or (drop 1 rest) m 0) count) ∙ prefix_len_stops is_text_byte (drop 1 rest) 0 (omega (arith, count)) in
      let here = place_ahead source at (1 + n) placed (omega arith) (λ k below. ap (λ bs. is_line_feed (get_or bs k 0)) is_rest ∙ text_in_line k below) in
      let behind : drop (at.offset + (1 + n)) source ≡ byte ∷ after =
      sym (drop-drop (1 + n) at.offset source) ∙ ap (drop (1 + n)) is_rest ∙ sym (drop-drop n 1 rest) ∙ drop_more (drop 1 rest) n 0 (omega arith) ∙ ap (λ b. b ∷ after) (get_or-drop 1 rest n 0) in
      let place = place_before-rest source (byte ∷ after) (ahead_of at (1 + n)) here behind in
      subst (λ bs. Stops source bs (BadByte (ahead_of at (1 + n)))) (text_splits more)
      (subst (λ p. Stops source (34 ∷ take n (drop 1 rest) ++ byte ∷ after) (BadByte p)) place (bad_text_byte (take n (drop 1 rest)) after byte bytes_of_text fails no_quote no_feed))
