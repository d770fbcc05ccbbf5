use Rattle.std.specs.Prelude.{◌≡◌, ℕ, length, Option}
use Rattle.sil_ast.specs.declared.place.ValueId.{ValueId}
use Rattle.ownership_kinds_chains.specs.declared.ownership_chains.facts.Facts.{Facts}
use Rattle.ownership_kinds_chains.specs.OwnershipMarks.Known.{AreKindsBy}
use Rattle.copy_pairing_search.specs.BorrowableCopies.inner.Answers.{AreAnswers, AreToldBefore}
use Rattle.copy_pairing_search.specs.BorrowableCopies.inner.Together.{AreFound}
use Rattle.copy_pairing_search.proofs.borrowable_copies.answers.answer_each.Given as goal

abbrev pub invariant-loop-c : goal.invariant-loop-c
invariant-loop-c l = record {
  size : length l.copied ≡ length l.answers;
  told : AreToldBefore l.c l.copied l.answers;
  answers : (count : ℕ) (facts : ValueId → Option Facts) → AreKindsBy count facts l.f l.g l.k → AreAnswers facts l.f l.initial.answers
      → AreFound facts l.f l.copied l.held → AreAnswers facts l.f l.answers;
}
