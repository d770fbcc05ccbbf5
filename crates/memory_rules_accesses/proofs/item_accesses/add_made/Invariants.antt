use Rattle.std.proofs.Common.{◌≡◌, ◌++◌, take}
use Rattle.std.specs.List.{flat_map}
use Rattle.memory_rules_accesses.specs.Accesses.{made}
use Rattle.memory_rules_accesses.proofs.item_accesses.add_made.Given as goal

abbrev pub invariant-loop-value : goal.invariant-loop-value
invariant-loop-value l = l.accesses.items ≡ l.initial.accesses.items ++ flat_map (made l.m) (take l.value-index l.defined)
