-- A derivation cut behind the last token that it takes, and what it leaves to be written. No definition of the language rests on it.
use Rattle.std.specs.Prelude.{◌≡◌, ◌<◌, List, [], ◌∷◌, ◌++◌, drop, reverse}
use Rattle.sil_grammar_tables.specs.declared.grammar.Symbol.{Symbol}
use Rattle.sil_grammar_shape.specs.declared.steps.Front.{Front}
use Rattle.sil_grammar_shape.specs.declared.steps.Step.{Step}
use Rattle.sil_grammar_shape.specs.declared.steps.Step.TheVariants.{Take, Expand}
use Rattle.sil_grammar_shape.specs.Derivation.{start}
use Rattle.sil_grammar_tables.specs.Grammar.{body}
use Rattle.sil_grammar_shape.specs.inner.Values.{takes_of}

-- what is left to be written after a step
unfoldable pub after : Step → List Symbol → List Symbol
after Take ss = drop 1 ss
after (Expand p) ss = body p ++ drop 1 ss

-- what is left to be written after some steps
abbrev pub left_after : List Step → List Symbol → List Symbol
left_after [] ss = ss
left_after (step ∷ steps) ss = left_after steps (after step ss)

-- behind each part that gives way a token is taken
abbrev pub AreDecided : List Step → Type 0
AreDecided [] = Unit {0}
AreDecided (Take ∷ steps) = AreDecided steps
AreDecided (Expand p ∷ steps) = (0 < takes_of steps) × AreDecided steps

-- these are the steps of a front up to the last token, and what they leave to be written
pub record IsCut (front cut : Front) : Type 0 where
  pub behind : List Step
  pub steps_are : front.steps.items ≡ cut.steps.items ++ behind
  pub none_behind : takes_of behind ≡ 0
  pub decided : AreDecided cut.steps.items
  pub left : reverse cut.left.items ≡ left_after cut.steps.items start
