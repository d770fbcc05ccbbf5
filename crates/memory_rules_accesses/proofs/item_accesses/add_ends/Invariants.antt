use Rattle.std.proofs.Common.{◌≡◌, ◌++◌, take}
use Rattle.std.specs.List.{flat_map}
use Rattle.memory_rules_accesses.specs.Accesses.{ended}
use Rattle.memory_rules_accesses.proofs.item_accesses.add_ends.Given as goal

abbrev pub invariant-loop-mark : goal.invariant-loop-mark
invariant-loop-mark l = l.accesses.items ≡ l.initial.accesses.items ++ flat_map ended (take l.mark-index l.marks)
