-- A text has one list of tokens and one stop.
use Rattle.std.proofs.Common.{◌≡◌, ℕ, ◌<◌, ◌≤◌, Bool, true, false, cond, eqb, not, List, [], ◌∷◌, ◌++◌, length, drop, refl, sym}
use Rattle.std.proofs.Common.{ap, ◌∙◌, subst, arith, append_assoc, drop_at, length-append, ⊎_elim, inl, inr}
use Rattle.std.proofs.lemmas.List.{append-nil}
use Rattle.std.specs.Prelude.{◌≢◌, ◌⊎◌, ◌==◌, Option, Some}
use Rattle.std.specs.List.{prefix_len, list_all, list_any}
use Rattle.std.specs.Char.{is_ascii_digit}
use Rattle.std.proofs.lemmas.Bool.{and_parts, or_parts, or_from, and_left, eqb-true, false≢true, false_from_ne_true, cases_Bool, ne_eqb}
use Rattle.sil_lexer.specs.declared.token.TokenKind.{TokenKind}
use Rattle.sil_lexer.specs.declared.token.LexRefusal.{LexRefusal}
use Rattle.sil_lexer.specs.declared.token.LexRefusal.TheVariants.{BadByte, UnclosedText, NameTooLong}
use Rattle.sil_ast.specs.TextBytes.Bytes.{is_line_feed, is_in_line, is_blank, is_word_start, is_text_byte, is_punctuation}
use Rattle.sil_lexer.specs.Places.{place_before}
use Rattle.sil_lexer.specs.Spelling.{Spells, word, at_name, percent, number, negative, quoted, punctuation, arrow, IsSpelled, begins_with, name_length}
use Rattle.sil_lexer.specs.Lexes.{Lexeme, Skips, nothing, blank, comment, last_comment, begins_comment, begins_skipped, BeginsNothing, Stops, bad_byte}
use Rattle.sil_lexer.specs.Lexes.{bad_text_byte, unclosed_at_line_end, unclosed_at_end, name_too_long, Lexes, end, token, stop}
use Rattle.sil_lexer.specs.inner.Lexing.{IsLexedOneWay}
use Rattle.sil_lexer.proofs.FrontLemmas.{one_spelling, run_goes_on, ended_run}
use Rattle.sil_lexer.proofs.SpellLemmas.{spelling_some}

-- what stands behind blanks and comments, where the bytes begin in a comment or not
behind : Bool → List ℕ → List ℕ
behind in_comment [] = []
behind in_comment (b ∷ bytes) =
    cond in_comment (behind (not (is_line_feed b)) bytes)
    (cond (is_blank b) (behind false bytes)
    (cond (begins_comment (b ∷ bytes)) (behind true bytes) (b ∷ bytes)))

behind-line : (line after : List ℕ) → list_all is_in_line line ≡ true → behind true (line ++ 10 ∷ after) ≡ behind false after
unfolding behind
behind-line [] after pass = refl
behind-line (b ∷ line) after pass =
    let parts = and_parts (is_in_line b) (list_all is_in_line line) pass in
    rw parts.0 (behind-line line after parts.1)

behind-last_line : (line : List ℕ) → list_all is_in_line line ≡ true → behind true line ≡ []
unfolding behind
behind-last_line [] pass = refl
behind-last_line (b ∷ line) pass =
    let parts = and_parts (is_in_line b) (list_all is_in_line line) pass in
    rw parts.0 (behind-last_line line parts.1)

behind-rest : (rest : List ℕ) → begins_skipped rest ≡ false → behind false rest ≡ rest
unfolding behind
behind-rest [] none = refl
behind-rest (b ∷ rest) none =
    let parts = or_parts (is_blank b) (begins_comment (b ∷ rest)) none in
    rw (parts.0, parts.1) refl

behind-skipped : (left rest : List ℕ) → Skips left rest → begins_skipped rest ≡ false → behind false left ≡ rest
unfolding behind
behind-skipped left rest (nothing _) none = behind-rest rest none
behind-skipped left rest (blank b bytes _ passes skips) none = rw passes (behind-skipped bytes rest skips none)
behind-skipped left rest (comment line bytes _ pass skips) none = behind-line line bytes pass ∙ behind-skipped bytes rest skips none
behind-skipped left rest (last_comment line pass) none = behind-last_line line pass

-- there is one place behind blanks and comments
one_rest : (left other rest rest' : List ℕ) → left ≡ other → Skips left rest → Skips other rest' → begins_skipped rest ≡ false → begins_skipped rest' ≡ false → rest ≡ rest'
one_rest left other rest rest' same skips skips' none none' = sym (behind-skipped left rest skips none) ∙ ap (behind false) same ∙ behind-skipped other rest' skips' none'

spelling_not_empty : (kind : TokenKind) (spelling after : List ℕ) → Spells kind spelling → spelling ++ after ≢ []
spelling_not_empty kind spelling after spells same =
    let some = spelling_some kind spelling spells in
    let size = length-append spelling after in
    let none = ap length same in
    absurd (omega arith)

-- a byte that passes a test differs from a byte that doesn't
byte_apart : (p : ℕ → Bool) (b other : ℕ) → p other ≡ false → p b ≡ true → eqb b other ≡ false
byte_apart p b other fails passes = false_from_ne_true _ (λ same. false≢true (sym fails ∙ ap p (sym (eqb-true b other same)) ∙ passes))

-- no blank and no comment begins with a byte that passes a test which their first bytes don't pass
not_skipped : (p : ℕ → Bool) (b : ℕ) (bytes : List ℕ) → list_any p (32 ∷ 9 ∷ 13 ∷ 10 ∷ 47 ∷ []) ≡ false → p b ≡ true → begins_skipped (b ∷ bytes) ≡ false
not_skipped p b bytes fail passes =
    let space = or_parts (p 32) _ fail in
    let tab = or_parts (p 9) _ space.1 in
    let return = or_parts (p 13) _ tab.1 in
    let feed = or_parts (p 10) _ return.1 in
    let slash = or_parts (p 47) _ feed.1 in
    let apart = λ (other : ℕ) (fails : p other ≡ false). byte_apart p b other fails passes in
    or_from _ _
    (or_from _ _ (or_from _ _ (or_from _ _ (apart 32 space.0) (apart 9 tab.0)) (apart 13 return.0)) (apart 10 feed.0))
    (and_left _ _ (apart 47 slash.0))

spelling_not_skipped : (kind : TokenKind) (spelling after : List ℕ) → Spells kind spelling → begins_skipped (spelling ++ after) ≡ false
spelling_not_skipped kind spelling after (word b more first _) = not_skipped is_word_start b (more ++ after) refl first
spelling_not_skipped kind spelling after (at_name _ _ _) = refl
spelling_not_skipped kind spelling after (percent _ _ _) = refl
spelling_not_skipped kind spelling after (number b more passes) = not_skipped is_ascii_digit b (more ++ after) refl (and_parts (is_ascii_digit b) (list_all is_ascii_digit more) passes).0
spelling_not_skipped kind spelling after (negative _ _ _) = refl
spelling_not_skipped kind spelling after (quoted _ _) = refl
spelling_not_skipped kind spelling after (punctuation b passes) = not_skipped is_punctuation b after refl passes
spelling_not_skipped kind spelling after arrow = refl

stop_not_skipped : (text rest : List ℕ) (refusal : LexRefusal) → Stops text rest refusal → begins_skipped rest ≡ false
stop_not_skipped text rest refusal (bad_byte _ none) = none.nothing_skipped
stop_not_skipped text rest refusal (bad_text_byte _ _ _ _ _ _ _) = refl
stop_not_skipped text rest refusal (unclosed_at_line_end _ _ _) = refl
stop_not_skipped text rest refusal (unclosed_at_end _ _) = refl
stop_not_skipped text rest refusal (name_too_long kind spelling after spelled _) = spelling_not_skipped kind spelling after spelled.spelled

-- what stands behind a quote and the bytes of a text
text_end : List ℕ → List ℕ
text_end rest = drop (prefix_len is_text_byte (drop 1 rest)) (drop 1 rest)

text_end-run : (inside after : List ℕ) → list_all is_text_byte inside ≡ true → begins_with is_text_byte after ≡ false → text_end (34 ∷ inside ++ after) ≡ after
unfolding text_end
text_end-run inside after pass ended =
    let none = ended_run is_text_byte after ended in
    let count : prefix_len is_text_byte (inside ++ after) ≡ length inside = run_goes_on is_text_byte inside after pass ∙ omega arith in
    drop_at inside after _ (sym count)

is_quote : ℕ → Bool
is_quote b = b == 34

-- a spelling that begins with a quote is a text, which ends with one
text_end-spelling : (kind : TokenKind) (spelling after : List ℕ) → Spells kind spelling → begins_with is_quote (spelling ++ after) ≡ true → text_end (spelling ++ after) ≡ 34 ∷ after
unfolding is_quote
text_end-spelling kind spelling after (word b more first _) quote = absurd (false≢true (sym (byte_apart is_word_start b 34 refl first) ∙ quote))
text_end-spelling kind spelling after (at_name _ _ _) quote = absurd (false≢true quote)
text_end-spelling kind spelling after (percent _ _ _) quote = absurd (false≢true quote)
text_end-spelling kind spelling after (number b more passes) quote =
    absurd (false≢true (sym (byte_apart is_ascii_digit b 34 refl (and_parts (is_ascii_digit b) (list_all is_ascii_digit more) passes).0) ∙ quote))
text_end-spelling kind spelling after (negative _ _ _) quote = absurd (false≢true quote)
text_end-spelling kind spelling after (quoted inside pass) quote =
    ap (λ bs. text_end (34 ∷ bs)) (append_assoc inside (34 ∷ []) after) ∙ text_end-run inside (34 ∷ after) pass refl
text_end-spelling kind spelling after (punctuation b passes) quote = absurd (false≢true (sym (byte_apart is_punctuation b 34 refl passes) ∙ quote))
text_end-spelling kind spelling after arrow quote = absurd (false≢true quote)

-- a long name begins with no quote
long_name_unquoted : (kind : TokenKind) (spelling after : List ℕ) → Spells kind spelling → 255 < name_length kind spelling → begins_with is_quote (spelling ++ after) ≡ false
unfolding is_quote
long_name_unquoted kind spelling after (word b more first _) long = byte_apart is_word_start b 34 refl first
long_name_unquoted kind spelling after (at_name _ _ _) long = refl
long_name_unquoted kind spelling after (percent _ _ _) long = refl
long_name_unquoted kind spelling after (number _ _ _) long = absurd (omega arith)
long_name_unquoted kind spelling after (negative _ _ _) long = absurd (omega arith)
long_name_unquoted kind spelling after (quoted _ _) long = absurd (omega arith)
long_name_unquoted kind spelling after (punctuation _ _) long = absurd (omega arith)
long_name_unquoted kind spelling after arrow long = absurd (omega arith)

-- the refusal of a text, by what stands behind its bytes
text_refusal : List ℕ → List ℕ → List ℕ → LexRefusal
text_refusal text rest [] = UnclosedText (place_before text rest)
text_refusal text rest (b ∷ after) = cond (b == 10) (UnclosedText (place_before text rest)) (BadByte (place_before text (b ∷ after)))

-- a refusal at a quote
record IsTextStop (text rest : List ℕ) (refusal : LexRefusal) : Type 0 where
  open_end : begins_with is_quote (text_end rest) ≡ false
  is_refusal : refusal ≡ text_refusal text rest (text_end rest)

text_stop : (text rest : List ℕ) (refusal : LexRefusal) → Stops text rest refusal → begins_with is_quote rest ≡ true → IsTextStop text rest refusal
unfolding is_quote text_refusal
text_stop text rest refusal (bad_byte _ none) quote = absurd (false≢true (sym none.no_text ∙ quote))
text_stop text rest refusal (bad_text_byte inside after byte pass fails no_quote no_feed) quote =
    let behind_text = text_end-run inside (byte ∷ after) pass fails in
    record { open_end = rw behind_text (ne_eqb byte 34 no_quote); is_refusal = rw (behind_text, ne_eqb byte 10 no_feed) refl }
text_stop text rest refusal (unclosed_at_line_end inside after pass) quote =
    let behind_text = text_end-run inside (10 ∷ after) pass refl in
    record { open_end = rw behind_text refl; is_refusal = rw behind_text refl }
text_stop text rest refusal (unclosed_at_end inside pass) quote =
    let behind_text : text_end (34 ∷ inside) ≡ [] = ap (λ bs. text_end (34 ∷ bs)) (sym (append-nil inside)) ∙ text_end-run inside [] pass refl in
    record { open_end = rw behind_text refl; is_refusal = rw behind_text refl }
text_stop text rest refusal (name_too_long kind spelling after spelled long) quote =
    absurd (false≢true (sym (long_name_unquoted kind spelling after spelled.spelled long) ∙ quote))

-- a long name at the front
record IsLongName (rest : List ℕ) : Type 0 where
  kind : TokenKind
  spelling : List ℕ
  after : List ℕ
  spelled : IsSpelled kind spelling after
  long : 255 < name_length kind spelling
  whole : spelling ++ after ≡ rest

-- a refusal where there is no quote
abbrev IsPlainStop : List ℕ → List ℕ → LexRefusal → Type 0
IsPlainStop text rest refusal = (BeginsNothing rest × (refusal ≡ BadByte (place_before text rest))) ⊎ (IsLongName rest × (refusal ≡ NameTooLong (place_before text rest)))

plain_stop : (text rest : List ℕ) (refusal : LexRefusal) → Stops text rest refusal → begins_with is_quote rest ≡ false → IsPlainStop text rest refusal
unfolding is_quote
plain_stop text rest refusal (bad_byte _ none) plain = inl (none, refl)
plain_stop text rest refusal (bad_text_byte _ _ _ _ _ _ _) plain = absurd (false≢true (sym plain))
plain_stop text rest refusal (unclosed_at_line_end _ _ _) plain = absurd (false≢true (sym plain))
plain_stop text rest refusal (unclosed_at_end _ _) plain = absurd (false≢true (sym plain))
plain_stop text rest refusal (name_too_long kind spelling after spelled long) plain =
    inr (record { kind = kind; spelling = spelling; after = after; spelled = spelled; long = long; whole = refl }, refl)

-- a name begins a list or nothing does
no_both : (rest : List ℕ) → BeginsNothing rest → IsLongName rest → ⊥
no_both rest none name = none.no_token name.kind name.spelling name.after name.spelled.spelled name.whole

one_stop : (text rest : List ℕ) (refusal other : LexRefusal) → Stops text rest refusal → Stops text rest other → refusal ≡ other
one_stop text rest refusal other stops stops' =
    ⊎_elim
    (λ quote. (text_stop text rest refusal stops quote).is_refusal ∙ sym (text_stop text rest other stops' quote).is_refusal)
    (λ plain. both (plain_stop text rest refusal stops plain) (plain_stop text rest other stops' plain))
    (cases_Bool (begins_with is_quote rest)) where
      both : IsPlainStop text rest refusal → IsPlainStop text rest other → refusal ≡ other
      both (inl bad) (inl bad') = bad.1 ∙ sym bad'.1
      both (inl bad) (inr name) = absurd (no_both rest bad.0 name.0)
      both (inr name) (inl bad) = absurd (no_both rest bad.0 name.0)
      both (inr name) (inr name') = name.1 ∙ sym name'.1

-- where a token can be taken there is no refusal
token_no_stop : (kind : TokenKind) (spelling after : List ℕ) → IsSpelled kind spelling after → name_length kind spelling ≤ 255
    → (text rest : List ℕ) (refusal : LexRefusal) → spelling ++ after ≡ rest → Stops text rest refusal → ⊥
unfolding is_quote
token_no_stop kind spelling after spelled short text rest refusal same stops =
    ⊎_elim
    (λ quote.
    let closed = ap text_end (sym same) ∙ text_end-spelling kind spelling after spelled.spelled (ap (begins_with is_quote) same ∙ quote) in
    false≢true (sym (text_stop text rest refusal stops quote).open_end ∙ ap (begins_with is_quote) closed))
    (λ plain. neither (plain_stop text rest refusal stops plain))
    (cases_Bool (begins_with is_quote rest)) where
      neither : IsPlainStop text rest refusal → ⊥
      neither (inl bad) = bad.0.no_token kind spelling after spelled.spelled same
      neither (inr name) =
          let one = one_spelling kind name.0.kind spelling after name.0.spelling name.0.after spelled name.0.spelled (name.0.whole ∙ sym same) in
          let size : name_length name.0.kind name.0.spelling ≡ name_length kind spelling = (λ i. name_length (one.0 i) (one.1 i)) in
          let long = name.0.long in
          absurd (omega arith)

stop_some : (text rest : List ℕ) (refusal : LexRefusal) → Stops text rest refusal → rest ≢ []
stop_some text rest refusal (bad_byte _ none) = none.some_byte
stop_some text rest refusal (bad_text_byte _ _ _ _ _ _ _) = λ same. cc
stop_some text rest refusal (unclosed_at_line_end _ _ _) = λ same. cc
stop_some text rest refusal (unclosed_at_end _ _) = λ same. cc
stop_some text rest refusal (name_too_long kind spelling after spelled _) = spelling_not_empty kind spelling after spelled.spelled

lexes_same : (text left other : List ℕ) (lexemes lexemes' : List Lexeme) (stop' stop'' : Option LexRefusal)
    → left ≡ other → Lexes text left lexemes stop' → Lexes text other lexemes' stop'' → (lexemes ≡ lexemes') × (stop' ≡ stop'')
lexes_same text left other lexemes lexemes' stop' stop'' same (end _ skips) (end _ skips') = (refl, refl)
lexes_same text left other lexemes lexemes' stop' stop'' same (end _ skips) (token _ spelling after kind _ _ skips' spelled _ _) =
    absurd (spelling_not_empty kind spelling after spelled.spelled (sym (one_rest left other [] (spelling ++ after) same skips skips' refl (spelling_not_skipped kind spelling after spelled.spelled))))
lexes_same text left other lexemes lexemes' stop' stop'' same (end _ skips) (stop _ rest refusal skips' stops) =
    absurd (stop_some text rest refusal stops (sym (one_rest left other [] rest same skips skips' refl (stop_not_skipped text rest refusal stops))))
lexes_same text left other lexemes lexemes' stop' stop'' same (token _ spelling after kind _ _ skips spelled _ _) (end _ skips') =
    absurd (spelling_not_empty kind spelling after spelled.spelled (one_rest left other (spelling ++ after) [] same skips skips' (spelling_not_skipped kind spelling after spelled.spelled) refl))
lexes_same text left other lexemes lexemes' stop' stop'' same (token _ spelling after kind more _ skips spelled _ next) (token _ spelling' after' kind' more' _ skips' spelled' _ next') =
    let rest = one_rest left other (spelling ++ after) (spelling' ++ after') same skips skips'
    (spelling_not_skipped kind spelling after spelled.spelled) (spelling_not_skipped kind' spelling' after' spelled'.spelled) in
    let one = one_spelling kind' kind spelling' after' spelling after spelled' spelled rest in
    let later = lexes_same text after after' more more' stop' stop'' one.2 next next' in
    ((λ i. record { kind = one.0 i; place = place_before text (rest i); spelling = one.1 i } ∷ later.0 i), later.1)
lexes_same text left other lexemes lexemes' stop' stop'' same (token _ spelling after kind _ _ skips spelled short _) (stop _ rest refusal skips' stops) =
    absurd (token_no_stop kind spelling after spelled short text rest refusal
    (one_rest left other (spelling ++ after) rest same skips skips' (spelling_not_skipped kind spelling after spelled.spelled) (stop_not_skipped text rest refusal stops)) stops)
lexes_same text left other lexemes lexemes' stop' stop'' same (stop _ rest refusal skips stops) (end _ skips') =
    absurd (stop_some text rest refusal stops (one_rest left other rest [] same skips skips' (stop_not_skipped text rest refusal stops) refl))
lexes_same text left other lexemes lexemes' stop' stop'' same (stop _ rest refusal skips stops) (token _ spelling after kind _ _ skips' spelled short _) =
    absurd (token_no_stop kind spelling after spelled short text rest refusal
    (sym (one_rest left other rest (spelling ++ after) same skips skips' (stop_not_skipped text rest refusal stops) (spelling_not_skipped kind spelling after spelled.spelled))) stops)
lexes_same text left other lexemes lexemes' stop' stop'' same (stop _ rest refusal skips stops) (stop _ rest' refusal' skips' stops') =
    let rests = one_rest left other rest rest' same skips skips' (stop_not_skipped text rest refusal stops) (stop_not_skipped text rest' refusal' stops') in
    (refl, ap Some (one_stop text rest' refusal refusal' (subst (λ bs. Stops text bs refusal) rests stops) stops'))

pub one_way : IsLexedOneWay
one_way text left lexemes others stop' other lexes lexes' = lexes_same text left left lexemes others stop' other refl lexes lexes'
