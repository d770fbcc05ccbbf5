-- The line for each reason but want of memory.
use Rattle.sil_command.specs.declared.status.Status.TheVariants.{NotAModule, Limit}
use Rattle.sil_command.specs.Reading.{AnswersRefusal, unexpected, unsupported, number_range, limit, twice, unknown_name}
use Rattle.sil_command.proofs.AnswerLemmas.{told_line}
use Rattle.sil_command.proofs.reading.answer_refusal.Goals as goal

pub returns-in-Unexpected : goal.returns-in-Unexpected
returns-in-Unexpected c =
    rw c.in-Unexpected.is (told_line (AnswersRefusal _) c.not_a_module.result NotAModule (unexpected c.in-Unexpected.place)
    c.not_a_module.ensures.text c.not_a_module.ensures.status)

pub returns-in-Unsupported : goal.returns-in-Unsupported
returns-in-Unsupported c =
    rw c.in-Unsupported.is (told_line (AnswersRefusal _) c.not_a_module-in-Unsupported.result NotAModule (unsupported c.in-Unsupported.place)
    c.not_a_module-in-Unsupported.ensures.text c.not_a_module-in-Unsupported.ensures.status)

pub returns-in-NumberRange : goal.returns-in-NumberRange
returns-in-NumberRange c =
    rw c.in-NumberRange.is (told_line (AnswersRefusal _) c.not_a_module-in-NumberRange.result NotAModule (number_range c.in-NumberRange.place)
    c.not_a_module-in-NumberRange.ensures.text c.not_a_module-in-NumberRange.ensures.status)

pub returns-in-Limit : goal.returns-in-Limit
returns-in-Limit c =
    rw c.in-Limit.is (told_line (AnswersRefusal _) c.passed_limit.result Limit (limit c.in-Limit.what c.in-Limit.place) c.passed_limit.ensures.text c.passed_limit.ensures.status)

pub returns-in-Twice : goal.returns-in-Twice
returns-in-Twice c =
    rw c.in-Twice.is (told_line (AnswersRefusal _) c.not_a_module-in-Twice.result NotAModule (twice c.in-Twice.place)
    c.not_a_module-in-Twice.ensures.text c.not_a_module-in-Twice.ensures.status)

pub returns-in-UnknownName : goal.returns-in-UnknownName
returns-in-UnknownName c =
    rw c.in-UnknownName.is (told_line (AnswersRefusal _) c.not_a_module-in-UnknownName.result NotAModule (unknown_name c.in-UnknownName.place)
    c.not_a_module-in-UnknownName.ensures.text c.not_a_module-in-UnknownName.ensures.status)
