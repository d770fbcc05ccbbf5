use Rattle.copy_pairing_search.specs.BorrowableCopies.inner.Answers.{AreKept}
use Rattle.copy_pairing_search.proofs.BorrowableCopies.Answering.{AreSparedBefore}
use Rattle.copy_pairing_search.proofs.borrowable_copies.answers.forget.Given as goal

abbrev pub invariant-loop-copy : goal.invariant-loop-copy
invariant-loop-copy l = record {
  spared : AreSparedBefore l.value l.copy l.initial.answers l.answers;
  kept : AreKept l.value l.initial.answers l.answers;
}
