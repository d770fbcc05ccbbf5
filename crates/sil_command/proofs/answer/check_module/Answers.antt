-- The answer of `check` to an accepted module.
use Rattle.std.proofs.Common.{sym, subst, ◌∙◌}
use Rattle.sil_command.specs.declared.status.Status.TheVariants.{Done}
use Rattle.sil_command.specs.Statuses.{code_of}
use Rattle.sil_command.specs.Answers.{Writes, accepted, written}
use Rattle.sil_command_lines.specs.Texts.{accepted_text}
use Rattle.sil_command.proofs.AnswerLemmas.{wrong_answer}
use Rattle.sil_command.proofs.answer.check_module.Goals as goal

pub returns-in_ok-from_slice-in-Ok : goal.returns-in_ok-from_slice-in-Ok
returns-in_ok-from_slice-in-Ok c =
    accepted _ _ c.in-Ok.ensures.accepted
    (subst (λ t. Writes accepted_text t (code_of Done)) (sym (c.in_ok-from_slice-in-Ok.ensures.items ∙ c.accepted.ensures)) written)

pub returns-in-Err : goal.returns-in-Err
returns-in-Err c = wrong_answer (Writes accepted_text) c.answer_end.result c.args.«module» (c.answer_end.ensures c.args.«module» c.in-Err.ensures.err)
