use Rattle.std.proofs.Common.{◌≡◌, ◌++◌, take}
use Rattle.std.specs.List.{flat_map}
use Rattle.copy_pairing_search.specs.BorrowableCopies.inner.Together.{entries_of}
use Rattle.copy_pairing_search.proofs.borrowable_copies.together.add_marks.Given as goal

abbrev pub invariant-loop-mark : goal.invariant-loop-mark
invariant-loop-mark l =
    l.entries.items ≡ l.initial.entries.items ++ flat_map (entries_of l.table.k.now l.table.copied.now) (take l.mark-index l.marks)
