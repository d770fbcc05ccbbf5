-- Which modules a text spells.
use Rattle.std.specs.Prelude.{◌≡◌, ℕ, List, [], ◌∷◌, None}
use Rattle.sil_ast.specs.declared.module.Module.{Module}
use Rattle.sil_lexer.specs.Lexes.{Lexeme, Lexes}
use Rattle.sil_grammar_shape.specs.Derivation.{start}
use Rattle.sil_grammar_tree.specs.declared.written_tree.written_module.WrittenModule.{WrittenModule}
use Rattle.sil_grammar_values.specs.Opened.{module_value}
use Rattle.sil_grammar.specs.SpelledPartsLaws.Stands.{Stands}
use Rattle.sil_grammar_names.specs.NameScopes.NameFaults.{name_fault}
use Rattle.sil_grammar_names.specs.NameResolution.Resolved.{resolved}
use Rattle.sil_grammar.specs.Classes.{token_class}

-- the text writes a module with names in place of numbers, and no number is out of range and no limit is passed
pub record SpellsWritten (w : WrittenModule) (text : List ℕ) : Type 0 where
  -- the tokens of the text, up to its end
  pub lexemes : List Lexeme
  pub lexed : Lexes text text lexemes None
  -- as a whole module they stand for this one
  pub stands : Stands token_class start lexemes (module_value w ∷ [])

pub record Spells (m : Module) (text : List ℕ) : Type 0 where
  pub written : WrittenModule
  pub spells : SpellsWritten written text
  -- every name is defined once, and defined at all
  pub names : name_fault written ≡ None
  pub numbered : m ≡ resolved written
