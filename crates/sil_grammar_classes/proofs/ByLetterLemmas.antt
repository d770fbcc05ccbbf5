-- The table by first letters answers as a search through all keywords does.
use Rattle.std.proofs.Common.{◌≡◌, ℕ, List, refl, subst}
use Rattle.std.specs.Prelude.{Option, Some, None, IfSome}
use Rattle.instruction_table.specs.declared.op.Op.TheVariants as op
use Rattle.sil_grammar_classes.specs.declared.classes.Keyword.{Keyword}
use Rattle.sil_grammar_classes.specs.declared.classes.Keyword.TheVariants as k
use Rattle.sil_grammar_classes.specs.Spelling.{spelling, keywords, known_keyword}
use Rattle.sil_grammar_classes.specs.inner.ByLetter.{keywords_at, looked_up, place_of}
use Rattle.sil_grammar_classes.proofs.SpellingLemmas.{find_spelled}

-- each keyword has its place in the table: computed for all of them
looked_up-spelling : (keyword : Keyword) → looked_up (spelling keyword) ≡ known_keyword (spelling keyword)
unfolding looked_up keywords_at known_keyword keywords spelling
looked_up-spelling k.Other = refl
looked_up-spelling (k.Mnemonic op.IntegerLiteral) = refl
looked_up-spelling (k.Mnemonic _) = refl
looked_up-spelling _ = refl

implied : {X : Type 0} (P Q : X → Type 0) (o : Option X) → ((x : X) → P x → Q x) → IfSome o P → IfSome o Q
implied P Q None h i = tt
implied P Q (Some x) h i = h x i

alike : {X : Type 0} (o p : Option X) → IfSome o (λ _. o ≡ p) → IfSome p (λ _. o ≡ p) → o ≡ p
alike None None h i = refl
alike (Some x) p h i = h
alike None (Some x) h i = i

-- two searches agree that agree at each spelling, where both find only what is spelled so
agree : (f g : List ℕ → Option Keyword) (word : List ℕ) → ((keyword : Keyword) → f (spelling keyword) ≡ g (spelling keyword))
    → IfSome (f word) (λ keyword. spelling keyword ≡ word) → IfSome (g word) (λ keyword. spelling keyword ≡ word) → f word ≡ g word
agree f g word same h i = alike (f word) (g word) (implied IsSpelled Agree (f word) at h) (implied IsSpelled Agree (g word) at i)
  where
    IsSpelled : Keyword → Type 0
    IsSpelled keyword = spelling keyword ≡ word

    Agree : Keyword → Type 0
    Agree keyword = f word ≡ g word

    at : (keyword : Keyword) → spelling keyword ≡ word → f word ≡ g word
    at keyword e = subst (λ w. f w ≡ g w) e (same keyword)

pub looked_up-known : (word : List ℕ) → looked_up word ≡ known_keyword word
unfolding looked_up known_keyword
looked_up-known word = agree looked_up known_keyword word looked_up-spelling (find_spelled spelling word (keywords_at (place_of word))) (find_spelled spelling word keywords)
