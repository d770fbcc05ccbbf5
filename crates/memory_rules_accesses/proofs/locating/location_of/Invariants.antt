use Rattle.std.proofs.Common.{◌≡◌, ◌-◌, length}
use Rattle.std.specs.Prelude.{option_map}
use Rattle.memory_rules_accesses.specs.inner.Kept.{behind}
use Rattle.memory_rules_accesses.specs.Locations.{locate, location_of}
use Rattle.memory_rules_accesses.proofs.locating.location_of.Given as goal

abbrev pub invariant-loop : goal.invariant-loop
invariant-loop l = location_of l.sources l.fn.address ≡ option_map (behind l.steps.items) (locate l.sources (length l.sources - l.counter) l.at)
