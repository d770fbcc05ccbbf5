-- The line for each lexical stop.
use Rattle.sil_command.specs.declared.status.Status.TheVariants.{NotAModule, Limit}
use Rattle.sil_command.specs.Reading.{AnswersRefusal, bad_byte, unclosed_text, long_name}
use Rattle.sil_command.proofs.AnswerLemmas.{told_line}
use Rattle.sil_command.proofs.reading.answer_stop.Goals as goal

pub returns-in-BadByte : goal.returns-in-BadByte
returns-in-BadByte c =
    rw c.in-BadByte.is (told_line (AnswersRefusal _) c.not_a_module.result NotAModule (bad_byte c.in-BadByte.place) c.not_a_module.ensures.text c.not_a_module.ensures.status)

pub returns-in-UnclosedText : goal.returns-in-UnclosedText
returns-in-UnclosedText c =
    rw c.in-UnclosedText.is (told_line (AnswersRefusal _) c.not_a_module-in-UnclosedText.result NotAModule (unclosed_text c.in-UnclosedText.place)
    c.not_a_module-in-UnclosedText.ensures.text c.not_a_module-in-UnclosedText.ensures.status)

pub returns-in-NameTooLong : goal.returns-in-NameTooLong
returns-in-NameTooLong c =
    rw c.in-NameTooLong.is (told_line (AnswersRefusal _) c.passed_limit.result Limit (long_name c.in-NameTooLong.place) c.passed_limit.ensures.text c.passed_limit.ensures.status)
