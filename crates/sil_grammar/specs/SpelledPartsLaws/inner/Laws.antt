-- What tokens stand for is what the reader's replay of their derivation comes to, and so is what is at fault.
use Rattle.std.specs.Prelude.{◌≡◌, ◌↔◌, ◌≤◌, List, length, map, None, Some}
use Rattle.sil_lexer.specs.Lexes.{Lexeme}
use Rattle.sil_grammar_shape.specs.declared.steps.Step.{Step}
use Rattle.sil_grammar_tables.specs.declared.grammar.Symbol.{Symbol}
use Rattle.sil_grammar_shape.specs.Derivation.{Derives}
use Rattle.sil_grammar_classes.specs.declared.classes.Class.{Class}
use Rattle.sil_grammar_values.specs.Opened.{PartValue}
use Rattle.sil_grammar_modules.specs.inner.Replay.{first_fault, replay}
use Rattle.sil_grammar_tree.specs.declared.written_tree.fault.Fault.{Fault}
use Rattle.sil_grammar.specs.SpelledPartsLaws.Reading.{AreFaultless, IsFirstFault, Reads}
use Rattle.sil_grammar.specs.SpelledPartsLaws.Stands.{Stands}

-- the tokens derive from the symbols by steps in which nothing is at fault, and the replay of the steps comes to the values
pub record IsReplayed (class_of : Lexeme → Class) (ss : List Symbol) (lexemes : List Lexeme) (values : List PartValue) : Type 0 where
  pub steps : List Step
  pub derived : Derives ss (map class_of lexemes) steps
  pub no_fault : first_fault steps lexemes ≡ None
  pub same : replay steps lexemes ≡ values

abbrev pub AreReplayed : Type 0
AreReplayed = (class_of : Lexeme → Class) (ss : List Symbol) (lexemes : List Lexeme) (values : List PartValue)
    → Stands class_of ss lexemes values ↔ IsReplayed class_of ss lexemes values

-- what steps of a derivation stand for, and what is at fault in it, over all of its tokens or over the first of them
pub record IsToldByReplay (steps : List Step) (lexemes : List Lexeme) : Type 0 where
  pub values : (values : List PartValue) → Reads steps lexemes values ↔ (replay steps lexemes ≡ values)
  pub none : AreFaultless steps lexemes ↔ (first_fault steps lexemes ≡ None)
  pub first : (fault : Fault) → IsFirstFault steps lexemes fault ↔ (first_fault steps lexemes ≡ Some fault)

abbrev pub AreToldByReplay : Type 0
AreToldByReplay = (ss : List Symbol) (classes : List Class) (steps : List Step) (lexemes : List Lexeme)
    → Derives ss classes steps → length lexemes ≤ length classes
    → IsToldByReplay steps lexemes
