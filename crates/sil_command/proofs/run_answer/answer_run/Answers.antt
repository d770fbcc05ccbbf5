-- The answer of `run` to an accepted module.
use Rattle.std.proofs.Common.{subst, sym, refl}
use Rattle.sil_command.specs.Answers.{AnswersRun, no_entry}
use Rattle.sil_command.specs.Statuses.{code_of}
use Rattle.sil_command.specs.declared.status.Status.TheVariants.{NoEntry}
use Rattle.sil_command.proofs.RunAnswers.{reported_answer}
use Rattle.sil_command.proofs.run_answer.answer_run.Goals as goal

pub returns-in-Ok : goal.returns-in-Ok
returns-in-Ok c = reported_answer c.args.«module» c.args.entry.now c.args.turns c.args.optimise c.in-Ok.report c.in-Ok.ensures.run
    c.answer_report-answer.result c.answer_report-answer.ensures.text c.answer_report-answer.ensures.status

pub returns-in_ok-no_entry-in-Err-NoEntry : goal.returns-in_ok-no_entry-in-Err-NoEntry
returns-in_ok-no_entry-in-Err-NoEntry c =
    let none = (rw c.in-Err-NoEntry.field-0-is at c.in-Err-NoEntry.ensures.no_entry).0 refl in
    subst (λ t. AnswersRun c.args.«module» c.args.entry.now c.args.turns c.args.optimise t (code_of NoEntry)) (sym c.in_ok-no_entry-in-Err-NoEntry.ensures) (no_entry none)
