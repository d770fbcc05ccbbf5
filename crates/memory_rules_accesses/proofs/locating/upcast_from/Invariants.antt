use Rattle.std.proofs.Common.{◌≡◌, ◌-◌, length}
use Rattle.memory_rules_accesses.specs.Locations.{below, upcast_from}
use Rattle.memory_rules_accesses.proofs.locating.upcast_from.Given as goal

-- what the upcasts that are left lead to is what all lead to
abbrev pub invariant-loop : goal.invariant-loop
invariant-loop l = upcast_from l.sources l.fn.value ≡ below l.sources (length l.sources - l.counter) l.at
