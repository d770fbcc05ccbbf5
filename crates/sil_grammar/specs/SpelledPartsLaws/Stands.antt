-- What tokens in a row stand for, as symbols of the grammar in a row. It is said by the class of each token, whatever classes
-- these are.
use Rattle.std.specs.Prelude.{List, map}
use Rattle.sil_lexer.specs.Lexes.{Lexeme}
use Rattle.sil_grammar_tables.specs.declared.grammar.Symbol.{Symbol}
use Rattle.sil_grammar_shape.specs.declared.steps.Step.{Step}
use Rattle.sil_grammar_shape.specs.Derivation.{Derives}
use Rattle.sil_grammar_classes.specs.declared.classes.Class.{Class}
use Rattle.sil_grammar_values.specs.Opened.{PartValue}
use Rattle.sil_grammar.specs.SpelledPartsLaws.Reading.{AreFaultless, Reads}

-- these tokens, as these symbols, stand for these values, one for each symbol, and nothing is at fault
pub record Stands (class_of : Lexeme → Class) (ss : List Symbol) (lexemes : List Lexeme) (values : List PartValue) : Type 0 where
  -- the grammar derives the tokens from the symbols by these steps
  pub steps : List Step
  pub derived : Derives ss (map class_of lexemes) steps
  -- which stand for these values
  pub reading : Reads steps lexemes values
  pub faultless : AreFaultless steps lexemes
