use Rattle.std.proofs.Common.{◌≡◌, ◌++◌, map, take}
use Rattle.memory_rules_accesses.specs.declared.access.Access.TheVariants.{Deallocates}
use Rattle.memory_rules_accesses.proofs.item_accesses.add_deallocated.Given as goal

abbrev pub invariant-loop-address : goal.invariant-loop-address
invariant-loop-address l = l.accesses.items ≡ l.initial.accesses.items ++ map Deallocates (take l.address-index l.addresses)
