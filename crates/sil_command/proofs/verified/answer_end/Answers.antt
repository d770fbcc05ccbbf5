-- The text and the status for each end of the verifier but want of memory.
use Rattle.std.proofs.Common.{sym, ap, subst, ◌∙◌}
use Rattle.sil_command.specs.declared.status.Status.TheVariants.{Refused, Limit}
use Rattle.sil_command.specs.Statuses.{code_of}
use Rattle.sil_verifier.specs.inner.Ends.{IsVerifyEnd}
use Rattle.sil_command.specs.Answers.{AnswersWrong, refused, limit_passed}
use Rattle.sil_command.specs.inner.ReportTexts.{report_text}
use Rattle.sil_command.proofs.AnswerLemmas.{told_line}
use Rattle.sil_command.proofs.RefusalLemmas.{reported_not_limit, reported_text}
use Rattle.sil_command.proofs.verified.answer_end.Goals as goal

pub returns-in-Refused : goal.returns-in-Refused
returns-in-Refused c m h =
    let ended = subst (IsVerifyEnd m) c.in-Refused.is h in
    let report = c.in-Refused.refusal in
    let found = ended.1.found in
    let told = ap (λ n. report_text n report) ended.0 ∙ reported_text m found report ended.1.reported in
    let answered = refused found ended.1.first (reported_not_limit m found report ended.1.reported) in
    told_line (AnswersWrong m) c.refused-answer.result Refused
    (subst (λ t. AnswersWrong m t (code_of Refused)) (sym told) answered) c.refused-answer.ensures.text c.refused-answer.ensures.status

pub returns-in-Limit : goal.returns-in-Limit
returns-in-Limit c m h =
    let ended = subst (IsVerifyEnd m) c.in-Limit.is h in
    told_line (AnswersWrong m) c.limit_passed.result Limit
    (limit_passed c.in-Limit.what ended.1) c.limit_passed.ensures.text c.limit_passed.ensures.status
