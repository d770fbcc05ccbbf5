-- Blanks and comments at the front of a list, and at a place of a text.
use Rattle.std.proofs.Common.{◌≡◌, ℕ, ◌+◌, ◌<◌, ◌≤◌, true, false, List, [], ◌∷◌, ◌++◌, length, get_or, take, drop, refl, sym, ap, ◌∙◌, subst, arith, eqb, zero, suc, drop-drop, length-drop}
use Rattle.std.specs.Prelude.{slice_range}
use Rattle.std.specs.List.{prefix_len, list_all}
use Rattle.std.proofs.lemmas.List.{drop_more, drop_all, take_all, take_rest}
use Rattle.std.proofs.lemmas.List.Sums.{prefix_len_stops, prefix_len_passes}
use Rattle.std.proofs.lemmas.Bool.{and_parts, and_right, eqb-true, not-false, not-true, false≢true}
use Rattle.sil_ast.specs.declared.place.Place.{Place}
use Rattle.sil_ast.specs.TextBytes.Bytes.{is_blank, is_in_line, is_line_feed}
use Rattle.sil_lexer.specs.Places.{ahead_of, IsPlaceIn}
use Rattle.sil_lexer.specs.Lexes.{Skips, nothing, blank, comment, last_comment, begins_comment}
use Rattle.sil_lexer.proofs.PlaceLemmas.{place_ahead}
use Rattle.sil_lexer.proofs.RunLemmas.{run_passes, split_at}

-- what is skipped before what is skipped is skipped
pub skips_on : (a b c : List ℕ) → Skips a b → Skips b c → Skips a c
skips_on a b c (nothing _) next = next
skips_on (byte ∷ bytes) b c (blank _ _ _ passes first) next = blank byte bytes c passes (skips_on bytes b c first next)
skips_on a b c (comment line bytes _ in_line first) next = comment line bytes c in_line (skips_on bytes b c first next)
skips_on a b c (last_comment line in_line) (nothing _) = last_comment line in_line

pub nothing_behind_end : (rest : List ℕ) → Skips [] rest → rest ≡ []
nothing_behind_end rest (nothing _) = refl

-- a comment that a line feed ends
pub comment_before : (line rest : List ℕ) → prefix_len is_in_line line < length line
    → Skips (drop (prefix_len is_in_line line + 1) line) rest → Skips (47 ∷ 47 ∷ line) rest
comment_before line rest ends next =
    let n = prefix_len is_in_line line in
    let is_feed : get_or line n 0 ≡ 10 = eqb-true _ _ (not-false _ (prefix_len_stops is_in_line line 0 ends)) in
    let split : take n line ++ 10 ∷ drop (n + 1) line ≡ line = ap (λ b. take n line ++ b ∷ drop (n + 1) line) (sym is_feed) ∙ split_at line n ends in
    subst (λ bs. Skips (47 ∷ 47 ∷ bs) rest) split (comment (take n line) (drop (n + 1) line) rest (run_passes is_in_line line) next)

-- a comment that the end cuts
pub comment_at_end : (line : List ℕ) → length line ≤ prefix_len is_in_line line → Skips (47 ∷ 47 ∷ line) []
comment_at_end line ends =
    last_comment line (subst (λ bs. list_all is_in_line bs ≡ true) (take_all _ line ends) (run_passes is_in_line line))

-- a blank at a place of a text
pub blank_skipped : (text : List ℕ) (o next : ℕ) → o < length text → is_blank (get_or text o 0) ≡ true → next ≡ o + 1
    → (rest : List ℕ) → Skips (drop next text) rest → Skips (drop o text) rest
blank_skipped text o next some_byte passes is_next rest skips =
    subst (λ bs. Skips bs rest) (sym (drop_more text o 0 some_byte)) (blank _ _ rest passes (subst (λ n. Skips (drop n text) rest) is_next skips))

-- what a comment begins with
pub comment_opens : (bytes : List ℕ) → begins_comment bytes ≡ true → bytes ≡ 47 ∷ 47 ∷ drop 2 bytes
comment_opens [] begins = absurd (cc)
comment_opens (a ∷ []) begins = absurd (false≢true (sym (and_right (eqb a 47) false refl) ∙ begins))
comment_opens (a ∷ b ∷ line) begins =
    let parts = and_parts (eqb a 47) (eqb b 47) begins in
    let first = eqb-true a 47 parts.0 in
    let second = eqb-true b 47 parts.1 in
    λ i. first i ∷ second i ∷ line

-- no byte of a comment before its end is a line feed
comment_in_line : (line : List ℕ) (k : ℕ) → k < 2 + prefix_len is_in_line line → is_line_feed (get_or (47 ∷ 47 ∷ line) k 0) ≡ false
comment_in_line line zero below = refl
comment_in_line line (suc zero) below = refl
comment_in_line line (suc (suc k)) below = not-true _ (prefix_len_passes is_in_line line k 0 (omega arith))

-- a comment at a place of a text, with n bytes in its line behind `//`
module _ (text : List ℕ) (at : Place) (n : ℕ) (begins : begins_comment (drop at.offset text) ≡ true)
    (in_slice : n ≡ prefix_len is_in_line (slice_range text (at.offset + 2) (length text))) where
  line : n ≡ prefix_len is_in_line (drop (at.offset + 2) text)
  line = rw take_rest at in_slice

  comment_bytes : drop at.offset text ≡ 47 ∷ 47 ∷ drop (at.offset + 2) text
  comment_bytes = comment_opens _ begins ∙ ap (λ bytes. 47 ∷ 47 ∷ bytes) (drop-drop 2 at.offset text)

  pub comment_place : IsPlaceIn text at → at.offset + (2 + n) ≤ length text → IsPlaceIn text (ahead_of at (2 + n))
  comment_place placed inside =
      place_ahead text at (2 + n) placed inside
      (λ k below. ap (λ bytes. is_line_feed (get_or bytes k 0)) comment_bytes ∙ comment_in_line (drop (at.offset + 2) text) k (omega (arith, line)))

  pub comment_skipped : (next : ℕ) → at.offset + (2 + n) < length text → next ≡ at.offset + (2 + n) + 1
      → (rest : List ℕ) → Skips (drop next text) rest → Skips (drop at.offset text) rest
  comment_skipped next inside is_next rest skips =
      let bytes = drop (at.offset + 2) text in
      let size = length-drop (at.offset + 2) text in
      let ends : prefix_len is_in_line bytes < length bytes = omega (arith, line) in
      let sum : next ≡ at.offset + 2 + (prefix_len is_in_line bytes + 1) = omega (arith, line) in
      let behind : drop next text ≡ drop (prefix_len is_in_line bytes + 1) bytes = ap (λ m. drop m text) sum ∙ sym (drop-drop _ (at.offset + 2) text) in
      subst (λ bs. Skips bs rest) (sym comment_bytes) (comment_before bytes rest ends (subst (λ bs. Skips bs rest) behind skips))

  pub last_comment_skipped : length text ≤ at.offset + (2 + n) → (rest : List ℕ) → Skips (drop (at.offset + (2 + n)) text) rest → Skips (drop at.offset text) rest
  last_comment_skipped ends rest skips =
      let bytes = drop (at.offset + 2) text in
      let size = length-drop (at.offset + 2) text in
      let whole : length bytes ≤ prefix_len is_in_line bytes = omega (arith, line) in
      let none : rest ≡ [] = nothing_behind_end rest (subst (λ bs. Skips bs rest) (drop_all _ text ends) skips) in
      subst (λ bs. Skips bs rest) (sym comment_bytes) (subst (Skips (47 ∷ 47 ∷ bytes)) (sym none) (comment_at_end bytes whole))
