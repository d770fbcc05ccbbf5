use Rattle.std.proofs.Common.{◌≡◌, ◌++◌, take}
use Rattle.std.specs.List.{flat_map}
use Rattle.memory_rules_accesses.specs.inner.Done.{done_at}
use Rattle.memory_rules_accesses.proofs.item_accesses.add_operated.Given as goal

abbrev pub invariant-loop-one : goal.invariant-loop-one
invariant-loop-one l = l.accesses.items ≡ l.initial.accesses.items ++ flat_map (done_at l.kind l.qualifier) (take l.one-index l.taken)
