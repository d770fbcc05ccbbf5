-- For the law `words_are_told`.
use Rattle.std.proofs.Common.{◌≡◌, refl, ap, sym, ◌∙◌, subst, ◌⊎◌, inl, inr, List, ℕ}
use Rattle.std.specs.Prelude.{Option, Some, IfSome, unwrap_or}
use Rattle.sil_grammar_classes.specs.declared.classes.AtWord.TheVariants as a
use Rattle.sil_grammar_classes.specs.declared.classes.Keyword.TheVariants as k
use Rattle.sil_grammar_classes.specs.inner.Laws.{AreAtWordsSpelled, AreKeywordsSpelled, ArePunctuationSpelled, HaveOwnSpellings}
use Rattle.sil_grammar_classes.specs.Spelling.{at_spelling, at_word_of, keyword_of, known_at_word, known_keyword, punctuation_of, punctuation_spelling, signs, spelling}
use Rattle.sil_grammar_classes.proofs.SpellingLemmas.{at_word_each, at_word_known, at_word_of-at_spelling, find_spelled, keyword_each}
use Rattle.sil_grammar_classes.proofs.SpellingLemmas.{keyword_known, keyword_of-spelling, punctuation_of-punctuation_spelling}

-- what was found and isn't another word is spelled so
spelled_unless : {X : Type 0} (f : X → List ℕ) (word : List ℕ) (other outcome x : X) → (x ≡ other → ⊥) → outcome ≡ x → (outcome ≡ other) ⊎ (f outcome ≡ word) → f x ≡ word
spelled_unless f word other outcome x named e (inl h) = absurd (named (sym e ∙ h))
spelled_unless f word other outcome x named e (inr h) = subst (λ y. f y ≡ word) e h

some_spelled : {X : Type 0} (f : X → List ℕ) (word : List ℕ) (o : Option X) (x : X) → o ≡ Some x → IfSome o (λ y. f y ≡ word) → f x ≡ word
some_spelled f word o x e h = subst (λ p. IfSome p (λ y. f y ≡ word)) e h

pub keywords_spelled : AreKeywordsSpelled
unfolding keyword_of
keywords_spelled word w named = (
  λ e. spelled_unless spelling word k.Other (keyword_of word) w named e (keyword_known word (known_keyword word) (keyword_of word) refl refl),
  λ e. keyword_each word (known_keyword word) (keyword_of word) w refl refl e,
)

pub at_words_spelled : AreAtWordsSpelled
unfolding at_word_of
at_words_spelled name w named = (
  λ e. spelled_unless at_spelling name a.Other (at_word_of name) w named e (at_word_known name (known_at_word name) (at_word_of name) refl refl),
  λ e. at_word_each name (known_at_word name) (at_word_of name) w refl refl e,
)

pub punctuation_spelled : ArePunctuationSpelled
unfolding punctuation_of
punctuation_spelled bytes p = (
  λ e. some_spelled punctuation_spelling bytes (punctuation_of bytes) p e (find_spelled punctuation_spelling bytes signs),
  λ e. ap punctuation_of (sym e)
      ∙ punctuation_of-punctuation_spelling p,
)

-- what is read as itself has its own spelling
own_by : {X : Type 0} (spelled : X → List ℕ) (of : List ℕ → X) → ((x : X) → of (spelled x) ≡ x) → HaveOwnSpellings spelled
own_by spelled of reads x y e = sym (reads x) ∙ ap of e ∙ reads y

pub own_keywords : HaveOwnSpellings spelling
own_keywords = own_by spelling keyword_of keyword_of-spelling

pub own_at_words : HaveOwnSpellings at_spelling
own_at_words = own_by at_spelling at_word_of at_word_of-at_spelling

pub own_punctuation : HaveOwnSpellings punctuation_spelling
own_punctuation x y e = ap (λ o. unwrap_or o x) (sym (punctuation_of-punctuation_spelling x) ∙ ap punctuation_of e ∙ punctuation_of-punctuation_spelling y)
