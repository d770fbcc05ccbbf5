use Rattle.std.proofs.Common.{sym, subst}
use Rattle.ownership_kinds.specs.ownership_kinds_origins.Facts.{facts_in}
use Rattle.copy_pairing_search.specs.BorrowableCopies.inner.Answers.{AreAnswers}
use Rattle.copy_pairing_search.proofs.BorrowableCopies.Answering.{told_some}
use Rattle.copy_pairing.proofs.turns.borrowable_by.Goals as goal

pub returns-in-Some-clause-borrowable : goal.returns-in-Some-clause-borrowable
returns-in-Some-clause-borrowable c =
    told_some c.as_slice.result.now c.args.copied.value c.args.copied.operand c.answer_to-known.result c.in-Some.borrowable c.in-Some.is c.answer_to-known.ensures.told
    (facts_in c.args.types.now c.args.f.now) c.args.f.now
    (subst (AreAnswers (facts_in c.args.types.now c.args.f.now) c.args.f.now) (sym c.as_slice.ensures.value) c.requires.notes.answers)
