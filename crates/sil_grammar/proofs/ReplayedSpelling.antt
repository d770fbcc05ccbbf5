-- A text that spells a module has steps of which the replay comes to it, and nothing is at fault in them.
use Rattle.std.proofs.Common.{◌≡◌, ℕ, List, [], ◌∷◌, map, None}
use Rattle.sil_lexer.specs.Lexes.{Lexeme, Lexes}
use Rattle.sil_grammar_shape.specs.declared.steps.Step.{Step}
use Rattle.sil_grammar_shape.specs.Derivation.{Derives, start}
use Rattle.sil_grammar.specs.SpelledPartsLaws.inner.Laws.{IsReplayed}
use Rattle.sil_grammar.proofs.SpelledPartsLaws.Derived.{stood_for}
use Rattle.sil_grammar_values.specs.Opened.{module_value}
use Rattle.sil_grammar_modules.specs.inner.Replay.{first_fault, Writes}
use Rattle.sil_grammar_tree.specs.declared.written_tree.written_module.WrittenModule.{WrittenModule}
use Rattle.sil_grammar.specs.Classes.{token_class}
use Rattle.sil_grammar.specs.Spells.{SpellsWritten}

pub replayed : {w : WrittenModule} {text : List ℕ} → (s : SpellsWritten w text) → IsReplayed token_class start s.lexemes (module_value w ∷ [])
replayed {w} s = (stood_for token_class start s.lexemes (module_value w ∷ [])).0 s.stands

pub spelled_by : (text : List ℕ) (w : WrittenModule) (lexemes : List Lexeme) (steps : List Step) → Lexes text text lexemes None → Derives start (map token_class lexemes) steps
    → first_fault steps lexemes ≡ None → Writes steps lexemes w → SpellsWritten w text
spelled_by text w lexemes steps lexed derived no_fault writes = record {
  lexemes = lexemes;
  lexed = lexed;
  stands = (stood_for token_class start lexemes (module_value w ∷ [])).1 (record { steps = steps; derived = derived; no_fault = no_fault; same = writes });
}
