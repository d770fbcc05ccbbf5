use Rattle.std.proofs.Common.{◌≡◌, ◌++◌, map, take}
use Rattle.copy_pairing_search.specs.BorrowableCopies.inner.Watched.{off_entry}
use Rattle.copy_pairing_search.proofs.borrowable_copies.watched.add_off.Given as goal

abbrev pub invariant-loop-value : goal.invariant-loop-value
invariant-loop-value l = l.entries.items ≡ l.initial.entries.items ++ map off_entry (take l.value-index l.held)
