use Rattle.std.proofs.Common.{◌≡◌, sym, subst}
use Rattle.copy_pairing_search.specs.BorrowableCopies.inner.Answers.{AreAnswers, noted_of}
use Rattle.copy_pairing_search.proofs.BorrowableCopies.Answering.{answers_more}
use Rattle.copy_pairing_search.proofs.borrowable_copies.answers.answer_one.Goals as goal

pub returns-in-Some-clause-told : goal.returns-in-Some-clause-told
returns-in-Some-clause-told c =
    let b = c.can_be_borrow-borrowable.result in
    (b, subst (λ o. c.note.new.answers ≡ noted_of c.args.value o b c.args.answers.now) (sym c.in-Some.is) c.note.ensures)

pub returns-in-Some-clause-answers : goal.returns-in-Some-clause-answers
returns-in-Some-clause-answers c = λ count facts by are free.
    let b = c.can_be_borrow-borrowable.result in
    let v = c.in-Some.operand in
    subst (AreAnswers facts c.args.f.now) (sym c.note.ensures)
    (answers_more facts c.args.f.now c.args.answers.now c.args.value v b
    (λ q copy. c.can_be_borrow-borrowable.ensures count facts by v (free v c.in-Some.is)) are)
