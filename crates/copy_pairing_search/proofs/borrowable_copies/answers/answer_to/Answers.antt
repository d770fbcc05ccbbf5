use Rattle.std.proofs.Common.{sym, ap, ◌∙◌, Some}
use Rattle.copy_pairing_search.proofs.BorrowableCopies.Answering.{answer_known, answer_told}
use Rattle.copy_pairing_search.proofs.borrowable_copies.answers.answer_to.Goals as goal

pub returns-then-answer-copied-clause-told : goal.returns-then-answer-copied-clause-told
returns-then-answer-copied-clause-told c = λ facts f are.
    answer_told facts f c.args.answers.now c.args.copied.value c.args.copied.operand c.in_ok-answer.answer (sym c.known_of.ensures ∙ c.in_ok-answer.was) c.if-answer-copied.true are

pub returns-then-answer-copied-clause-known : goal.returns-then-answer-copied-clause-known
returns-then-answer-copied-clause-known c = λ b is.
    ap Some
    (answer_known c.args.answers.now c.args.copied.value c.args.copied.operand c.in_ok-answer.answer b (sym c.known_of.ensures ∙ c.in_ok-answer.was) is).1

pub returns-clause-known : goal.returns-clause-known
returns-clause-known c = λ b is.
    absurd (c.if-answer-copied.false
    (answer_known c.args.answers.now c.args.copied.value c.args.copied.operand c.in_ok-answer.answer b (sym c.known_of.ensures ∙ c.in_ok-answer.was) is).0)
