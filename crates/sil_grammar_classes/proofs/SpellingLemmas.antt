-- A spelling is read as what it spells, and nothing else is.
use Rattle.std.proofs.Common.{rules, arith, ◌≡◌, ◌≢◌, ℕ, List, [], ◌∷◌, length, get_or, refl, ap, sym, subst, ◌∙◌, Bool, true, false, bytes_eq, inl, inr, ◌⊎◌}
use Rattle.std.specs.Prelude.{Option, Some, None, cond, find, unwrap_or, IfSome}
use Rattle.std.proofs.lemmas.Slice.Eq.{bytes_eq-Decides}
use Rattle.instruction_table.specs.declared.op.Op.TheVariants as op
use Rattle.sil_grammar_classes.specs.declared.classes.Keyword.{Keyword}
use Rattle.sil_grammar_classes.specs.declared.classes.Keyword.TheVariants as k
use Rattle.sil_grammar_classes.specs.declared.classes.AtWord.{AtWord}
use Rattle.sil_grammar_classes.specs.declared.classes.AtWord.TheVariants as a
use Rattle.sil_grammar_classes.specs.declared.classes.Punctuation.{Punctuation}
use Rattle.sil_grammar_classes.specs.declared.classes.Punctuation.TheVariants as m
use Rattle.sil_grammar_classes.specs.Spelling.{spelling, keywords, known_keyword, keyword_of, at_spelling, at_words, known_at_word, at_word_of, punctuation_spelling, signs, punctuation_of}

pub keyword_of-spelling : (keyword : Keyword) → keyword_of (spelling keyword) ≡ keyword
unfolding keyword_of known_keyword keywords spelling
keyword_of-spelling k.Other = refl
keyword_of-spelling (k.Mnemonic op.IntegerLiteral) = refl
keyword_of-spelling (k.Mnemonic _) = refl
keyword_of-spelling _ = refl

pub at_word_of-at_spelling : (name : AtWord) → at_word_of (at_spelling name) ≡ name
unfolding at_word_of known_at_word at_words at_spelling
at_word_of-at_spelling a.Other = refl
at_word_of-at_spelling _ = refl

pub punctuation_of-punctuation_spelling : (sign : Punctuation) → punctuation_of (punctuation_spelling sign) ≡ Some sign
unfolding punctuation_of signs punctuation_spelling
punctuation_of-punctuation_spelling m.Comma = refl
punctuation_of-punctuation_spelling _ = refl

bytes_eq-true : (xs ys : List ℕ) → bytes_eq xs ys ≡ true → xs ≡ ys
bytes_eq-true xs ys h = search (rules, bytes_eq-Decides)

found : {X : Type 0} (f : X → List ℕ) (word : List ℕ) (x : X) (rest : Option X) (b : Bool) → bytes_eq (f x) word ≡ b → IfSome rest (λ x. f x ≡ word) → IfSome (cond b (Some x) rest) (λ x. f x ≡ word)
found f word x rest true e h = bytes_eq-true (f x) word e
found f word x rest false e h = h

-- what a search finds is spelled so
pub find_spelled : {X : Type 0} (f : X → List ℕ) (word : List ℕ) (xs : List X) → IfSome (find (λ x. bytes_eq (f x) word) xs) (λ x. f x ≡ word)
find_spelled f word [] = tt
find_spelled f word (x ∷ xs) = found f word x (find (λ x. bytes_eq (f x) word) xs) (bytes_eq (f x) word) refl (find_spelled f word xs)

or_other : {X : Type 0} (f : X → List ℕ) (word : List ℕ) (other : X) (o : Option X) → IfSome o (λ x. f x ≡ word) → (unwrap_or o other ≡ other) ⊎ (f (unwrap_or o other) ≡ word)
or_other f word other None h = inl refl
or_other f word other (Some x) h = inr h

-- the same of a word that was looked up
pub keyword_each : (word : List ℕ) (known : Option Keyword) (outcome keyword : Keyword)
    → known ≡ known_keyword word → outcome ≡ unwrap_or known k.Other → spelling keyword ≡ word → outcome ≡ keyword
unfolding keyword_of
keyword_each word known outcome keyword f o e =
    o ∙ ap (λ r. unwrap_or r k.Other) f ∙ ap keyword_of (sym e) ∙ keyword_of-spelling keyword

pub keyword_known : (word : List ℕ) (known : Option Keyword) (outcome : Keyword)
    → known ≡ known_keyword word → outcome ≡ unwrap_or known k.Other → (outcome ≡ k.Other) ⊎ (spelling outcome ≡ word)
unfolding known_keyword
keyword_known word known outcome f o = rw (o, f) (or_other spelling word k.Other (known_keyword word) (find_spelled spelling word keywords))

pub at_word_each : (name : List ℕ) (known : Option AtWord) (outcome at : AtWord)
    → known ≡ known_at_word name → outcome ≡ unwrap_or known a.Other → at_spelling at ≡ name → outcome ≡ at
unfolding at_word_of
at_word_each name known outcome at f o e =
    o ∙ ap (λ r. unwrap_or r a.Other) f ∙ ap at_word_of (sym e) ∙ at_word_of-at_spelling at

pub at_word_known : (name : List ℕ) (known : Option AtWord) (outcome : AtWord)
    → known ≡ known_at_word name → outcome ≡ unwrap_or known a.Other → (outcome ≡ a.Other) ⊎ (at_spelling outcome ≡ name)
unfolding known_at_word
at_word_known name known outcome f o = rw (o, f) (or_other at_spelling name a.Other (known_at_word name) (find_spelled at_spelling name at_words))

-- punctuation of other than one byte is the arrow
only_arrow : (bytes : List ℕ) (o : Option Punctuation) → IfSome o (λ m. punctuation_spelling m ≡ bytes) → length bytes ≢ 1 → punctuation_spelling m.Arrow ≢ bytes → None ≡ o
unfolding punctuation_spelling
only_arrow bytes None known several other = refl
only_arrow bytes (Some m.Arrow) known several other = absurd (other known)
only_arrow bytes (Some _) known several other = absurd (several (sym (ap length known)))

bytes_eq-false : (xs ys : List ℕ) → bytes_eq xs ys ≡ false → ys ≢ xs
bytes_eq-false xs ys h = search (rules, bytes_eq-Decides)

punctuation_known : (bytes : List ℕ) (outcome : Option Punctuation) → outcome ≡ punctuation_of bytes → IfSome outcome (λ m. punctuation_spelling m ≡ bytes)
unfolding punctuation_of
punctuation_known bytes outcome same = rw same (find_spelled punctuation_spelling bytes signs)

one_byte : (bytes : List ℕ) → length bytes ≡ 1 → get_or bytes 0 0 ∷ [] ≡ bytes
one_byte [] one = absurd (omega (arith, one))
one_byte (b ∷ []) one = refl
one_byte (b ∷ c ∷ bytes) one = absurd (omega (arith, one))

pub is_mark : (bytes : List ℕ) (outcome : Option Punctuation) → length bytes ≡ 1 → outcome ≡ punctuation_of (get_or bytes 0 0 ∷ []) → IfSome outcome (λ m. punctuation_spelling m ≡ bytes)
is_mark bytes outcome one same = punctuation_known bytes outcome (same ∙ ap punctuation_of (one_byte bytes one))

pub is_arrow : (bytes arrow : List ℕ) → arrow ≡ punctuation_spelling m.Arrow → bytes_eq bytes arrow ≡ true → Some m.Arrow ≡ punctuation_of bytes
is_arrow bytes arrow spelled same = sym (ap punctuation_of (bytes_eq-true bytes arrow same ∙ spelled) ∙ punctuation_of-punctuation_spelling m.Arrow)

pub no_punctuation : (bytes arrow : List ℕ) → length bytes ≢ 1 → arrow ≡ punctuation_spelling m.Arrow → bytes_eq bytes arrow ≡ false → None ≡ punctuation_of bytes
no_punctuation bytes arrow several spelled other =
    only_arrow bytes (punctuation_of bytes) (punctuation_known bytes (punctuation_of bytes) refl) several (subst (λ a. a ≢ bytes) spelled (bytes_eq-false bytes arrow other))
