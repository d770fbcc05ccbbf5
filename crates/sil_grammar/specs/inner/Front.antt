-- The first fault in the front of a text.
use Rattle.std.specs.Prelude.{ℕ, List, map, take, Option, Some, None}
use Rattle.sil_lexer.specs.Lexes.{Lexeme}
use Rattle.sil_lexer.specs.inner.Lexing.{Lexing, lexemes_of}
use Rattle.sil_grammar_shape.specs.declared.steps.Step.{Step}
use Rattle.sil_grammar_tree.specs.declared.written_tree.fault.Fault.{Fault}
use Rattle.sil_grammar.specs.SpelledPartsLaws.Reading.{AreFaultless, IsFirstFault}
use Rattle.sil_grammar.specs.Classes.{token_class}
use Rattle.sil_grammar.specs.Completion.{IsShortestFrom}

-- the first fault in what the steps stand for, if there is one
abbrev pub IsFound : List Step → List Lexeme → Option Fault → Type 0
IsFound steps lexemes None = AreFaultless steps lexemes
IsFound steps lexemes (Some fault) = IsFirstFault steps lexemes fault

-- this is the first fault in what the shortest module stands for that begins with so many tokens
pub record IsFrontFault (text : List ℕ) (lexing : Lexing) (count : ℕ) (fault : Option Fault) : Type 0 where
  pub steps : List Step
  pub begun : IsShortestFrom (map token_class (take count (lexemes_of text lexing))) steps
  pub first : IsFound steps (take count (lexemes_of text lexing)) fault
