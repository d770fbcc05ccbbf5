use Rattle.std.proofs.Common.{◌≡◌, map}
use Rattle.std.specs.List.{range_with_len}
use Rattle.ownership_kinds_chains.specs.OwnershipChains.Facts.{value_of}
use Rattle.memory_rules_accesses.specs.Locations.{location_of}
use Rattle.memory_rules_accesses.proofs.locating.locations_of.Given as goal

abbrev pub invariant-loop-n : goal.invariant-loop-n
invariant-loop-n l = l.locations ≡ map (λ n. location_of l.sources (value_of n)) (range_with_len 0 l.n)
