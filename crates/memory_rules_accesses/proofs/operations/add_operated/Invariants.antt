use Rattle.std.proofs.Common.{◌≡◌, ◌++◌, take}
use Rattle.std.specs.List.{flat_map}
use Rattle.memory_rules_accesses.specs.Operations.{operated_at}
use Rattle.memory_rules_accesses.proofs.operations.add_operated.Given as goal

abbrev pub invariant-loop-one : goal.invariant-loop-one
invariant-loop-one l = l.operations.items ≡ l.initial.operations.items ++ flat_map (operated_at l.kind l.qualifier) (take l.one-index l.taken)
