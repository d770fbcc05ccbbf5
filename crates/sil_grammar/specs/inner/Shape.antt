-- How far the tokens of a text have the shape of a module.
use Rattle.std.specs.Prelude.{◌≡◌, ℕ, ◌+◌, ◌<◌, ◌≤◌, List, length, map, reverse, take, None}
use Rattle.sil_lexer.specs.inner.Lexing.{Lexing, lexemes_of}
use Rattle.sil_grammar_shape.specs.declared.steps.Step.{Step}
use Rattle.sil_grammar_shape.specs.declared.steps.Front.{Front}
use Rattle.sil_grammar_shape.specs.inner.Begun.{LeadsTo}
use Rattle.sil_grammar_shape.specs.Derivation.{BeginsShape, IsDerivation}
use Rattle.sil_grammar_shape.specs.inner.Values.{takes_of}
use Rattle.sil_grammar.specs.declared.first_bad.BadPlace.{BadPlace}
use Rattle.sil_grammar.specs.declared.first_bad.Shape.{Shape}
use Rattle.sil_grammar.specs.declared.first_bad.Shape.TheVariants.{Whole, Broken}
use Rattle.sil_grammar.specs.Classes.{token_class}
use Rattle.sil_grammar.specs.FirstBad.{IsFirstBadPlace}

-- the tokens reach the end of the text, and these steps alone derive them
pub record IsWhole (text : List ℕ) (lexing : Lexing) (steps : List Step) : Type 0 where
  pub reached : lexing.stop ≡ None
  pub derived : IsDerivation (map token_class (lexemes_of text lexing)) steps
  pub taken : takes_of steps ≡ length lexing.tokens

-- the text goes wrong at this place, and this front of a derivation takes so many tokens before it, with which a module
-- can begin, but not with one more
pub record IsBroken (text : List ℕ) (lexing : Lexing) (bad : BadPlace) (count : ℕ) (front : Front) : Type 0 where
  pub first : IsFirstBadPlace text bad
  pub inside : count ≤ length lexing.tokens
  pub most : count < length lexing.tokens → BeginsShape (map token_class (take (count + 1) (lexemes_of text lexing))) → ⊥
  pub leads : LeadsTo (map token_class (take count (lexemes_of text lexing))) front.steps.items (reverse front.left.items)

abbrev pub IsShapeOf : List ℕ → Lexing → Shape → Type 0
IsShapeOf text lexing (Whole steps) = IsWhole text lexing steps.items
IsShapeOf text lexing (Broken bad count front) = IsBroken text lexing bad count front
