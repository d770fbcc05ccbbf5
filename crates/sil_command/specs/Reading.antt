-- The answer to a text that isn't read, by the reason: the line that is written, and the status.
use Rattle.std.specs.Prelude.{ℕ, List, codes}
use Rattle.sil_ast.specs.declared.place.Place.{Place}
use Rattle.sil_lexer.specs.declared.token.LexRefusal.TheVariants as stop
use Rattle.sil_grammar.specs.declared.refusal.ReadRefusal.{ReadRefusal}
use Rattle.sil_grammar.specs.declared.refusal.ReadRefusal.TheVariants as refusal
use Rattle.sil_rules.specs.declared.limit_word.LimitWord.{LimitWord}
use Rattle.sil_rules.specs.declared.limit_word.LimitWord.TheVariants.{Name}
use Rattle.sil_command.specs.declared.status.Status.TheVariants.{NotAModule, Limit}
use Rattle.sil_command.specs.Statuses.{code_of}
use Rattle.sil_command_lines.specs.Texts.{not_a_module_text, passed_limit_text}

-- want of memory has no answer
pub data AnswersRefusal : ReadRefusal → List ℕ → ℕ → Type 0 where
  bad_byte : (place : Place) → AnswersRefusal (refusal.Lex (stop.BadByte place)) (not_a_module_text (codes "bad byte") place) (code_of NotAModule)
  unclosed_text : (place : Place) → AnswersRefusal (refusal.Lex (stop.UnclosedText place))
      (not_a_module_text (codes "unclosed text") place) (code_of NotAModule)
  long_name : (place : Place) → AnswersRefusal (refusal.Lex (stop.NameTooLong place)) (passed_limit_text Name place) (code_of Limit)
  unexpected : (place : Place) → AnswersRefusal (refusal.Unexpected place) (not_a_module_text (codes "unexpected") place) (code_of NotAModule)
  unsupported : (place : Place) → AnswersRefusal (refusal.Unsupported place) (not_a_module_text (codes "unsupported") place) (code_of NotAModule)
  number_range : (place : Place) → AnswersRefusal (refusal.NumberRange place) (not_a_module_text (codes "number out of range") place) (code_of NotAModule)
  limit : (what : LimitWord) (place : Place) → AnswersRefusal (refusal.Limit what place) (passed_limit_text what place) (code_of Limit)
  twice : (place : Place) → AnswersRefusal (refusal.Twice place) (not_a_module_text (codes "defined twice") place) (code_of NotAModule)
  unknown_name : (place : Place) → AnswersRefusal (refusal.UnknownName place) (not_a_module_text (codes "unknown name") place) (code_of NotAModule)
