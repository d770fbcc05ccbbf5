-- What a refusal of `read` says.
use Rattle.std.specs.Prelude.{◌≡◌, ℕ, ◌+◌, ◌<◌, ◌≤◌, List, length, map, take, Option, Some, None}
use Rattle.sil_ast.specs.declared.module.Module.{Module}
use Rattle.sil_ast.specs.declared.place.Place.{Place}
use Rattle.sil_lexer.specs.declared.token.LexRefusal.{LexRefusal}
use Rattle.sil_lexer.specs.declared.token.LexRefusal.TheVariants as stop
use Rattle.sil_lexer.specs.Lexes.{Lexeme, Lexes}
use Rattle.sil_grammar_shape.specs.declared.steps.Step.{Step}
use Rattle.sil_grammar_shape.specs.Derivation.{BeginsShape, Derives, start}
use Rattle.sil_grammar_tree.specs.declared.written_tree.fault.Fault.{Fault}
use Rattle.sil_grammar_tree.specs.declared.written_tree.fault.FaultKind.{FaultKind}
use Rattle.sil_grammar_tree.specs.declared.written_tree.fault.FaultKind.TheVariants as kind
use Rattle.sil_grammar_tree.specs.declared.written_tree.written_module.WrittenModule.{WrittenModule}
use Rattle.sil_grammar.specs.SpelledPartsLaws.Reading.{IsFirstFault}
use Rattle.sil_grammar_names.specs.NameScopes.NameFaults.{name_fault}
use Rattle.sil_grammar.specs.declared.first_bad.BadKind.{BadKind}
use Rattle.sil_grammar.specs.declared.first_bad.BadKind.TheVariants as bad
use Rattle.sil_grammar.specs.declared.first_bad.BadPlace.{BadPlace}
use Rattle.sil_grammar.specs.declared.refusal.ReadRefusal.{ReadRefusal}
use Rattle.sil_grammar.specs.declared.refusal.ReadRefusal.TheVariants as refusal
use Rattle.sil_grammar.specs.Classes.{token_class}
use Rattle.sil_grammar.specs.Completion.{IsShortestFrom}
use Rattle.sil_grammar.specs.FirstBad.{IsFirstBadPlace}
use Rattle.sil_grammar.specs.Spells.{Spells, SpellsWritten}

abbrev pub SpellsNone : List ℕ → Type 0
SpellsNone text = (m : Module) → Spells m text → ⊥

-- the first tokens of the text, as many as a module can begin with, which are those before its first bad place; and the
-- shortest module that begins with them
pub record IsFront (text : List ℕ) : Type 0 where
  pub lexemes : List Lexeme
  pub lexed_to : Option LexRefusal
  pub lexed : Lexes text text lexemes lexed_to
  -- so many of the tokens, and no module begins with one more
  pub count : ℕ
  pub inside : count ≤ length lexemes
  pub most : count < length lexemes → BeginsShape (map token_class (take (count + 1) lexemes)) → ⊥
  -- these steps derive the module
  pub steps : List Step
  pub shortest : IsShortestFrom (map token_class (take count lexemes)) steps

-- the first fault in what this module stands for. The tokens that the text lacks stand behind all others
abbrev pub IsFaultOf : {text : List ℕ} → IsFront text → Fault → Type 0
IsFaultOf front fault = IsFirstFault front.steps (take front.count front.lexemes) fault

-- the first bad place of the text, with no fault before it
pub record IsShapeless (text : List ℕ) (place : BadPlace) : Type 0 where
  pub first_bad : IsFirstBadPlace text place
  pub front : IsFront text
  pub no_fault : (fault : Fault) → IsFaultOf front fault → place.place.offset ≤ fault.place.offset

-- the first fault of the text, a number out of range or a token that passes a limit
pub data IsFaulty (text : List ℕ) (fault : Fault) : Type 0 where
  -- the text has the shape of a module
  in_whole : (lexemes : List Lexeme) (steps : List Step) → Lexes text text lexemes None → Derives start (map token_class lexemes) steps
      → IsFirstFault steps lexemes fault → IsFaulty text fault
  -- it has none, and the fault comes before the first place where it goes wrong
  in_front : (place : BadPlace) (front : IsFront text) → IsFirstBadPlace text place → IsFaultOf front fault
      → fault.place.offset < place.place.offset → IsFaulty text fault

-- the text writes a module, and this name is the first that is defined twice, or used and not defined
pub record IsMisnamed (text : List ℕ) (fault : Fault) : Type 0 where
  pub written : WrittenModule
  pub spells : SpellsWritten written text
  pub first : name_fault written ≡ Some fault

unfoldable pub refusal_of_bad : BadKind → Place → ReadRefusal
refusal_of_bad bad.BadByte place = refusal.Lex (stop.BadByte place)
refusal_of_bad bad.UnclosedText place = refusal.Lex (stop.UnclosedText place)
refusal_of_bad bad.NameTooLong place = refusal.Lex (stop.NameTooLong place)
refusal_of_bad bad.Unsupported place = refusal.Unsupported place
refusal_of_bad bad.Unexpected place = refusal.Unexpected place

unfoldable pub refusal_of_fault : FaultKind → Place → ReadRefusal
refusal_of_fault kind.NumberRange place = refusal.NumberRange place
refusal_of_fault (kind.Limit what) place = refusal.Limit what place
refusal_of_fault kind.Twice place = refusal.Twice place
refusal_of_fault kind.UnknownName place = refusal.UnknownName place

-- why a text is refused: its first bad place, or else a fault or a name; in each case it spells no module
pub data IsRefusalOf (text : List ℕ) : ReadRefusal → Type 0 where
  shapeless : (place : BadPlace) → SpellsNone text → IsShapeless text place → IsRefusalOf text (refusal_of_bad place.kind place.place)
  faulty : (fault : Fault) → SpellsNone text → IsFaulty text fault → IsRefusalOf text (refusal_of_fault fault.kind fault.place)
  misnamed : (fault : Fault) → SpellsNone text → IsMisnamed text fault → IsRefusalOf text (refusal_of_fault fault.kind fault.place)
  exhausted : IsRefusalOf text refusal.Memory
