use Rattle.std.proofs.Common.{◌≡◌, ◌++◌, take}
use Rattle.std.specs.List.{flat_map}
use Rattle.ownership_kinds_chains.specs.OwnershipMarks.Known.{facts_of}
use Rattle.lifetime_worklist.specs.Lives.{lives_by}
use Rattle.lifetime_worklist.proofs.lives.add_marks.Given as goal

abbrev pub invariant-loop-mark : goal.invariant-loop-mark
invariant-loop-mark l = l.entries.items ≡ l.initial.entries.items ++ flat_map (lives_by (facts_of l.k)) (take l.mark-index l.marks)
