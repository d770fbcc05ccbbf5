-- What is read is in numbered form.
use Rattle.std.specs.Prelude.{◌≡◌, List, None}
use Rattle.sil_lexer.specs.Lexes.{Lexeme}
use Rattle.sil_grammar_classes.specs.declared.classes.Class.{Class}
use Rattle.sil_grammar_shape.specs.declared.steps.Step.{Step}
use Rattle.sil_grammar_shape.specs.Derivation.{Derives, start}
use Rattle.sil_grammar_tree.specs.declared.written_tree.written_module.WrittenModule.{WrittenModule}
use Rattle.sil_grammar_modules.specs.inner.Replay.{first_fault, Writes}
use Rattle.sil_grammar_names.specs.NameScopes.NameFaults.{name_fault}
use Rattle.sil_grammar_names.specs.NameResolution.Resolved.{resolved}
use Rattle.numbered_form.specs.inner.NumberedForm.{IsNumbered}
use Rattle.sil_grammar.specs.NumberedReadingLaws.inner.Leaves.{AreOfClasses}

-- tokens of these classes, derived by these steps, write the module, and nothing in it is at fault
pub record IsWritten (classes : List Class) (lexemes : List Lexeme) (steps : List Step) (w : WrittenModule) : Type 0 where
  pub leaves : AreOfClasses classes lexemes
  pub derived : Derives start classes steps
  pub no_fault : first_fault steps lexemes ≡ None
  pub writes : Writes steps lexemes w
  pub names : name_fault w ≡ None

abbrev pub AreWrittenNumbered : Type 0
AreWrittenNumbered = (classes : List Class) (lexemes : List Lexeme) (steps : List Step) (w : WrittenModule)
    → IsWritten classes lexemes steps w → IsNumbered (resolved w)
