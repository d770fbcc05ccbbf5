use Rattle.std.proofs.Common.{◌≡◌, ◌++◌, take}
use Rattle.std.specs.List.{flat_map}
use Rattle.ownership_kinds_chains.specs.OwnershipChains.Facts.{told_at}
use Rattle.ownership_kinds_chains.specs.OwnershipMarks.Marks.{ended}
use Rattle.ownership_kinds_chains.proofs.ownership_marks.marks.add_ends.Given as goal

abbrev pub invariant-loop-one : goal.invariant-loop-one
invariant-loop-one l = l.marks.items ≡ l.initial.marks.items ++ flat_map (ended (told_at l.table)) (take l.one-index l.taken)
