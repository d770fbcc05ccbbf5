use Rattle.std.proofs.Common.{◌≡◌, ◌++◌, map, take}
use Rattle.ownership_kinds_chains.specs.OwnershipMarks.Marks.{use_of}
use Rattle.ownership_kinds_chains.proofs.ownership_marks.marks.add_uses_of.Given as goal

abbrev pub invariant-loop-value : goal.invariant-loop-value
invariant-loop-value l = l.marks.items ≡ l.initial.marks.items ++ map use_of (take l.value-index l.values)
