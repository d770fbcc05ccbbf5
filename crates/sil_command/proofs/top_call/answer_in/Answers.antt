-- Each way in which an answer ends, as one relation, and how far the source was taken.
use Rattle.std.proofs.Common.{refl, arith}
use Rattle.sil_io.specs.Reading.{stopped, ended, failed}
use Rattle.sil_command.specs.Ends.{answered, read_failed, exhausted}
use Rattle.sil_command.proofs.AnswerLemmas.{whole_answer, too_long_answer}
use Rattle.sil_command.proofs.top_call.answer_in.Goals as goal

pub returns-in-Ok-answer_to-clause-ends : goal.returns-in-Ok-answer_to-clause-ends
returns-in-Ok-answer_to-clause-ends g c = λ words asks.
    answered _ _ _
    (whole_answer _ _ _ _ c.args.mode _ c.in-Ok.text.items _ _ _ asks c.requires.takes c.in-Ok.ensures.all c.in-Ok.ensures.to_end refl c.in-Ok-answer_to.ensures)
    c.in-Ok.ensures.no_fault
    (rw c.as_slice.ensures.value at c.finish.ensures)

pub returns-in-Ok-answer_to-clause-takes : goal.returns-in-Ok-answer_to-clause-takes
returns-in-Ok-answer_to-clause-takes g c = ended c.in-Ok.text.items (omega (arith, c.in-Ok.ensures.within, c.in-Ok.text.ok.0)) c.in-Ok.ensures.to_end

pub returns-in-Ok-clause-ends : goal.returns-in-Ok-clause-ends
returns-in-Ok-clause-ends g c = λ words asks. rw c.code.ensures (exhausted refl refl)

pub returns-in-Ok-clause-takes : goal.returns-in-Ok-clause-takes
returns-in-Ok-clause-takes g c = ended c.in-Ok.text.items (omega (arith, c.in-Ok.ensures.within, c.in-Ok.text.ok.0)) c.in-Ok.ensures.to_end

pub returns-in-Err-TooLong-clause-ends : goal.returns-in-Err-TooLong-clause-ends
returns-in-Err-TooLong-clause-ends g c = λ words asks.
    let cut = rw c.in-Err-TooLong.field-0-is at c.in-Err-TooLong.ensures.cut_off in
    answered _ _ _
    (too_long_answer _ _ g.met.S.Source.from_left _ _ _ c.args.mode cut.0 asks c.requires.takes cut.1 cut.2)
    (rw c.in-Err-TooLong.field-0-is at c.in-Err-TooLong.ensures.refused)
    (rw c.limit.ensures at c.finish-in-Err-TooLong.ensures)

pub returns-in-Err-TooLong-clause-takes : goal.returns-in-Err-TooLong-clause-takes
returns-in-Err-TooLong-clause-takes g c =
    let cut = rw c.in-Err-TooLong.field-0-is at c.in-Err-TooLong.ensures.cut_off in
    stopped _ (omega (arith, cut.1)) cut.2

pub returns-in-Err-Fault-clause-ends : goal.returns-in-Err-Fault-clause-ends
returns-in-Err-Fault-clause-ends g c = λ words asks.
    read_failed _ (rw c.in-Err-Fault.field-0-is at c.in-Err-Fault.ensures.refused)
    (rw c.read_fault.ensures at c.finish-in-Err-Fault.ensures)

pub returns-in-Err-Fault-clause-takes : goal.returns-in-Err-Fault-clause-takes
returns-in-Err-Fault-clause-takes g c =
    let cut = rw c.in-Err-Fault.field-0-is at c.in-Err-Fault.ensures.cut_off in
    failed _ _ cut.2 cut.3 cut.4

pub returns-clause-ends : goal.returns-clause-ends
returns-clause-ends g c = λ words asks. rw c.code-in-Err-Memory.ensures (exhausted refl refl)

pub returns-clause-takes : goal.returns-clause-takes
returns-clause-takes g c =
    let cut = rw c.in-Err-Memory.field-0-is at c.in-Err-Memory.ensures.cut_off in
    stopped _ (omega (arith, cut.1)) cut.2
