-- For the law that what `print` writes reads back.
use Rattle.std.proofs.Common.{◌≡◌, ℕ, List, arith}
use Rattle.sil_command_words.specs.inner.Laws.{SayOneThing}
use Rattle.sil_ast.specs.declared.module.Module.{Module}
use Rattle.sil_grammar.specs.Spells.{Spells}
use Rattle.sil_grammar.specs.inner.Laws.{AreSpelledNumbered}
use Rattle.sil_printer_laws.specs.inner.Laws.{ArePrintedSpelled}
use Rattle.sil_command.specs.declared.status.Status.TheVariants.{Done}
use Rattle.sil_command.specs.Statuses.{code_of}
use Rattle.sil_command.specs.declared.words.Mode.TheVariants.{Print}
use Rattle.sil_command.specs.Answers.{AnswersText, too_long, unread, spelled, Writes, written}
use Rattle.sil_printer.specs.CanonicalModules.{canonical_text}
use Rattle.sil_command.specs.Laws.{ArePrintedReadBack}
use Rattle.sil_command.proofs.StatusLemmas.{mode_answers}
use Rattle.sil_command.proofs.Unread.{unread_status}

module _ (one : SayOneThing) (are_spelled : ArePrintedSpelled) (are_numbered : AreSpelledNumbered) where
  answer_spells : (m : Module) (text answer : List ℕ) (status : ℕ) → Spells m text → Writes (canonical_text m) answer status → Spells m answer
  answer_spells m text _ _ spells written = are_spelled m (are_numbered m text spells)

  text_read_back : (text answer : List ℕ) (status : ℕ) → AnswersText Print text answer status → status ≡ code_of Done → (m : Module) × Spells m text × Spells m answer
  text_read_back text _ _ (too_long long) zero = absurd (omega arith)
  text_read_back text answer status (unread reason _ _ inside refusal line) zero = absurd (omega (arith, unread_status reason answer status line))
  text_read_back text answer status (spelled m _ _ inside spells answers) zero = (m, spells, answer_spells m text answer status spells answers)

  pub printed_texts_read_back : ArePrintedReadBack
  printed_texts_read_back words text answer status asks answers zero =
      text_read_back text answer status (mode_answers one words Print text answer status asks answers) zero
