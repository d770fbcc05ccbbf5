use Rattle.std.proofs.Common.{◌≡◌, ◌++◌, take}
use Rattle.std.specs.List.{flat_map}
use Rattle.ownership_kinds_chains.specs.OwnershipChains.Facts.{told_at}
use Rattle.ownership_kinds_chains.specs.OwnershipMarks.Marks.{used}
use Rattle.ownership_kinds_chains.proofs.ownership_marks.marks.add_uses.Given as goal

abbrev pub invariant-loop-one : goal.invariant-loop-one
invariant-loop-one l = l.marks.items ≡ l.initial.marks.items ++ flat_map (used (told_at l.table)) (take l.one-index l.taken)
