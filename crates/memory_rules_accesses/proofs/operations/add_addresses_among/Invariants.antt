use Rattle.std.proofs.Common.{◌≡◌, ◌++◌, take}
use Rattle.std.specs.List.{flat_map}
use Rattle.memory_rules_accesses.specs.Operations.{address_of}
use Rattle.memory_rules_accesses.proofs.operations.add_addresses_among.Given as goal

abbrev pub invariant-loop-one : goal.invariant-loop-one
invariant-loop-one l = l.addresses.items ≡ l.initial.addresses.items ++ flat_map address_of (take l.one-index l.taken)
