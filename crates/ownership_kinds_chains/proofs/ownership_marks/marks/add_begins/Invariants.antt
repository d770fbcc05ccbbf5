use Rattle.std.proofs.Common.{◌≡◌, ◌++◌, take}
use Rattle.std.specs.List.{flat_map}
use Rattle.ownership_kinds_chains.specs.OwnershipChains.Facts.{told_at}
use Rattle.ownership_kinds_chains.specs.OwnershipMarks.Marks.{begun}
use Rattle.ownership_kinds_chains.proofs.ownership_marks.marks.add_begins.Given as goal

abbrev pub invariant-loop-value : goal.invariant-loop-value
invariant-loop-value l = l.marks.items ≡ l.initial.marks.items ++ flat_map (begun (told_at l.table)) (take l.value-index l.values)
