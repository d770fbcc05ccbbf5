-- What a word is by its first characters, and where an `=` cuts it.
use Rattle.std.proofs.Common.{◌≡◌, ◌∙◌, ◌||◌, ◌+◌, ◌==◌, ℕ, Bool, cond, true, false, not, refl, sym, ap, subst, arith, one-add, eqb-true, List, [], ◌∷◌}
use Rattle.std.proofs.Common.{◌++◌, length, take, drop, Some, None, true≢false, slice_get}
use Rattle.std.specs.Str.{chars}
use Rattle.std.specs.Prelude.{suc}
use Rattle.std.specs.List.{after_first, before_first, position_or_len}
use Rattle.clap.specs.Lexer.{has_byte, name_and_value}
use Rattle.sil_command_words.specs.CommandLines.{is_value}

-- a word can be a value, is `--`, names an option, or has a character behind one hyphen
pub data Sort : List ℕ → Type 0 where
  value : (word : List ℕ) → is_value word ≡ true → Sort word
  hyphens : Sort (45 ∷ 45 ∷ [])
  long : (y : ℕ) (ys : List ℕ) → Sort (45 ∷ 45 ∷ y ∷ ys)
  short : (y : ℕ) (ys : List ℕ) (x : ℕ) → (y == 45) ≡ false → slice_get (chars (y ∷ ys)) 0 ≡ Some x → Sort (45 ∷ y ∷ ys)

first_char : (cs : List ℕ) → (length cs == 0) ≡ false → (x : ℕ) × (slice_get cs 0 ≡ Some x)
first_char [] some = absurd (true≢false some)
first_char (c ∷ cs) some = (c, refl)

two_hyphens : (ys : List ℕ) → Sort (45 ∷ 45 ∷ ys)
two_hyphens [] = hyphens
two_hyphens (y ∷ ys) = long y ys

behind_hyphen : (rest : List ℕ) → (length (chars rest) == 0) ≡ false → Sort (45 ∷ rest)
unfolding chars
behind_hyphen [] some = absurd (true≢false some)
behind_hyphen (y ∷ ys) some = go (y == 45) refl
  where
    go : (b : Bool) → (y == 45) ≡ b → Sort (45 ∷ y ∷ ys)
    go true e = subst (λ z. Sort (45 ∷ z ∷ ys)) (sym (eqb-true y 45 e)) (two_hyphens ys)
    go false e =
        let first = first_char (chars (y ∷ ys)) some in
        short y ys first.0 e first.1

pub sort_of : (word : List ℕ) → Sort word
sort_of [] = value [] refl
sort_of (first ∷ rest) = go (first == 45) (length (chars rest) == 0) refl refl
  where
    go : (h e : Bool) → (first == 45) ≡ h → (length (chars rest) == 0) ≡ e → Sort (first ∷ rest)
    go false e other is = value (first ∷ rest) (rw other refl)
    go true true hyphen is = value (first ∷ rest) (rw (hyphen, is) refl)
    go true false hyphen is = subst (λ z. Sort (z ∷ rest)) (sym (eqb-true first 45 hyphen)) (behind_hyphen rest is)

-- where an `=` (61) stands
pub data Cut (text : List ℕ) : Type 0 where
  whole : name_and_value text ≡ (text, None) → Cut text
  parts : (name given : List ℕ) → name_and_value text ≡ (name, Some given) → text ≡ name ++ 61 ∷ given → Cut text

abbrev is_equals : ℕ → Bool
is_equals x = x == 61

before_whole : (text : List ℕ) → has_byte 61 text ≡ false → before_first is_equals text ≡ text
before_whole [] none = refl
before_whole (x ∷ xs) none = go (x == 61) refl none (before_whole xs)
  where
    go : (b : Bool) → (x == 61) ≡ b → (b || has_byte 61 xs) ≡ false → (has_byte 61 xs ≡ false → before_first is_equals xs ≡ xs)
        → before_first is_equals (x ∷ xs) ≡ x ∷ xs
    go true e n rest = absurd (true≢false n)
    go false e n rest =
        ap (λ b. take (cond (not b) (1 + position_or_len is_equals xs) 0) (x ∷ xs)) e
        ∙ ap (λ k. take k (x ∷ xs)) (one-add (position_or_len is_equals xs)) ∙ ap (λ l. x ∷ l) (rest n)

-- a text cut at a place
abbrev cut_at : List ℕ → ℕ → List ℕ
cut_at text k = take k text ++ (61 ∷ drop (k + 1) text)

before_and_after : (text : List ℕ) → has_byte 61 text ≡ true → text ≡ cut_at text (position_or_len is_equals text)
before_and_after [] some = absurd (true≢false (sym some))
before_and_after (x ∷ xs) some = go (x == 61) refl some (before_and_after xs)
  where
    go : (b : Bool) → (x == 61) ≡ b → (b || has_byte 61 xs) ≡ true → (has_byte 61 xs ≡ true → xs ≡ cut_at xs (position_or_len is_equals xs))
        → x ∷ xs ≡ cut_at (x ∷ xs) (cond (not (x == 61)) (1 + position_or_len is_equals xs) 0)
    go true e n rest =
        ap (λ z. z ∷ xs) (eqb-true x 61 e) ∙ ap (λ b. cut_at (x ∷ xs) (cond (not b) (1 + position_or_len is_equals xs) 0)) (sym e)
    go false e n rest =
        let further : suc (position_or_len is_equals xs + 1) ≡ suc (position_or_len is_equals xs) + 1 = omega arith in
        ap (λ l. x ∷ l) (rest n)
        ∙ ap (λ k. x ∷ (take (position_or_len is_equals xs) xs ++ (61 ∷ drop k (x ∷ xs)))) further
        ∙ ap (cut_at (x ∷ xs)) (sym (one-add (position_or_len is_equals xs)))
        ∙ ap (λ b. cut_at (x ∷ xs) (cond (not b) (1 + position_or_len is_equals xs) 0)) (sym e)

pub cut_of : (text : List ℕ) → Cut text
cut_of text = go (has_byte 61 text) refl
  where
    go : (b : Bool) → has_byte 61 text ≡ b → Cut text
    go true e = parts (before_first is_equals text) (after_first is_equals text) (rw e refl) (before_and_after text e)
    go false e = whole (rw (e, before_whole text e) refl)
