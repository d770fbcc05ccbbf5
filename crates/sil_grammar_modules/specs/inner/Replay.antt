-- What the steps of a derivation and the tokens that they take stand for, and the first fault in it, from the last step
-- to the first.
use Rattle.std.specs.Prelude.{◌≡◌, ◌≤◌, ◌++◌, ℕ, List, [], ◌∷◌, length, Option, None}
use Rattle.std.specs.List.{HoldsAt}
use Rattle.sil_lexer.specs.Lexes.{Lexeme}
use Rattle.sil_lexer.specs.inner.Lexing.{Lexing, lexeme_of}
use Rattle.sil_grammar_shape.specs.declared.steps.Step.{Step}
use Rattle.sil_grammar_shape.specs.declared.steps.Step.TheVariants.{Take, Expand}
use Rattle.sil_grammar_tree.specs.declared.written_tree.fault.Fault.{Fault}
use Rattle.sil_grammar_values.specs.declared.value.Value.{Value}
use Rattle.sil_grammar_values.specs.declared.value.Value.TheVariants as v
use Rattle.sil_grammar_tree.specs.declared.written_tree.written_module.WrittenModule.{WrittenModule}
use Rattle.sil_grammar_tree.specs.WrittenTree.Faults.{earlier}
use Rattle.sil_grammar_modules.specs.Leaves.{kept_of, leaf_of}
use Rattle.sil_grammar_values.specs.inner.Reduced.{parts_of, reduced}
use Rattle.sil_grammar_values.specs.inner.PartFaults.{part_fault}
use Rattle.sil_grammar_values.specs.Values.{no_token}

-- where more tokens are taken than there are, those that are lacking are empty, and stand behind every token
abbrev pub replay : List Step → List Lexeme → List Value
replay [] lexemes = []
replay (Take ∷ steps) [] = v.Token no_token ∷ replay steps []
replay (Take ∷ steps) (l ∷ lexemes) = leaf_of l ∷ replay steps lexemes
replay (Expand p ∷ steps) lexemes = reduced p (replay steps lexemes)

-- the first fault in what the steps stand for
abbrev pub first_fault : List Step → List Lexeme → Option Fault
first_fault [] lexemes = None
first_fault (Take ∷ steps) [] = first_fault steps []
first_fault (Take ∷ steps) (l ∷ lexemes) = first_fault steps lexemes
first_fault (Expand p ∷ steps) lexemes = earlier (part_fault p (parts_of p (replay steps lexemes))) (first_fault steps lexemes)

-- this is kept of the bytes of the token at i
abbrev pub IsKeptAt : List ℕ → Lexing → ℕ → List ℕ → Type 0
IsKeptAt text lexing i kept = HoldsAt (λ token. kept ≡ kept_of token.kind (lexeme_of text token).spelling) lexing.tokens i

-- the token at i stands for the value
abbrev pub IsLeafAt : List ℕ → Lexing → ℕ → Value → Type 0
IsLeafAt text lexing i value = HoldsAt (λ token. value ≡ leaf_of (lexeme_of text token)) lexing.tokens i

-- these steps and tokens write the module
abbrev pub Writes : List Step → List Lexeme → WrittenModule → Type 0
Writes steps lexemes written = replay steps lexemes ≡ v.Module written ∷ []

-- some may be gone, but not of the first `count`
abbrev pub KeepsFirst : {X : Type 0} → ℕ → List X → List X → Type 0
KeepsFirst {X = X} count old new = (gone : List X) × (old ≡ new ++ gone) × (count ≤ length new)
