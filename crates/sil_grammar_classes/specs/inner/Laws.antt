-- What spelling tells apart: a word, a name with `@` or a piece of punctuation is what it is spelled as, and nothing else.
use Rattle.std.specs.Prelude.{◌≡◌, ◌↔◌, ℕ, List, Some}
use Rattle.sil_grammar_classes.specs.Spelling.{at_spelling, at_word_of, keyword_of, punctuation_of, punctuation_spelling, spelling}
use Rattle.sil_grammar_classes.specs.declared.classes.AtWord.{AtWord}
use Rattle.sil_grammar_classes.specs.declared.classes.AtWord.TheVariants as at
use Rattle.sil_grammar_classes.specs.declared.classes.Keyword.{Keyword}
use Rattle.sil_grammar_classes.specs.declared.classes.Keyword.TheVariants as keyword
use Rattle.sil_grammar_classes.specs.declared.classes.Punctuation.{Punctuation}

-- a word is a keyword just where it is spelled as the keyword is
abbrev pub AreKeywordsSpelled : Type 0
AreKeywordsSpelled = (word : List ℕ) (k : Keyword) → (k ≡ keyword.Other → ⊥) → (keyword_of word ≡ k) ↔ (spelling k ≡ word)

-- the same of a name with `@`, without the `@`
abbrev pub AreAtWordsSpelled : Type 0
AreAtWordsSpelled = (name : List ℕ) (a : AtWord) → (a ≡ at.Other → ⊥) → (at_word_of name ≡ a) ↔ (at_spelling a ≡ name)

-- and of punctuation
abbrev pub ArePunctuationSpelled : Type 0
ArePunctuationSpelled = (bytes : List ℕ) (p : Punctuation) → (punctuation_of bytes ≡ Some p) ↔ (punctuation_spelling p ≡ bytes)

-- no two of them have one spelling
abbrev pub HaveOwnSpellings : {X : Type 0} → (X → List ℕ) → Type 0
HaveOwnSpellings {X} spelled = (x y : X) → spelled x ≡ spelled y → x ≡ y
