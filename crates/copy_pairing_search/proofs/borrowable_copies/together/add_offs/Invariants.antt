use Rattle.std.proofs.Common.{◌≡◌, ◌++◌, map, take}
use Rattle.reach_engine_marks.specs.PathChecks.inner.Shared.{shared_from}
use Rattle.copy_pairing_search.specs.BorrowableCopies.inner.Together.{off_if}
use Rattle.copy_pairing_search.proofs.borrowable_copies.together.add_offs.Given as goal

abbrev pub invariant-loop-copy : goal.invariant-loop-copy
invariant-loop-copy l = l.entries.items ≡ l.initial.entries.items ++ shared_from 0 (map (off_if l.k l.ended) (take l.copy l.copied))
