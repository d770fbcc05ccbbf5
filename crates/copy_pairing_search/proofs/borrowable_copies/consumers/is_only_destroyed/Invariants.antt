use Rattle.copy_pairing_search.proofs.BorrowableCopies.EndedItems.{AreKeptBefore}
use Rattle.copy_pairing_search.proofs.borrowable_copies.consumers.is_only_destroyed.Given as goal

abbrev pub invariant-loop-i : goal.invariant-loop-i
invariant-loop-i l = AreKeptBefore l.f l.g l.k l.value l.i
