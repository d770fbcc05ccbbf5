use Rattle.std.proofs.Common.{◌≡◌, ◌++◌, take}
use Rattle.std.specs.List.{flat_map}
use Rattle.copy_pairing_search.specs.BorrowableCopies.inner.Watched.{entries_by}
use Rattle.copy_pairing_search.proofs.borrowable_copies.watched.add_marks.Given as goal

abbrev pub invariant-loop-mark : goal.invariant-loop-mark
invariant-loop-mark l =
    l.entries.items ≡ l.initial.entries.items ++ flat_map (entries_by l.watched.sort l.watched.values.now l.watched.held.now) (take l.mark-index l.marks)
