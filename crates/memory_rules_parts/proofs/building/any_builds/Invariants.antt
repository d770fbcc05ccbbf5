use Rattle.std.proofs.Common.{◌≡◌, take, false}
use Rattle.std.specs.List.{list_any}
use Rattle.memory_rules_parts.specs.Building.{builds}
use Rattle.memory_rules_parts.proofs.building.any_builds.Given as goal

abbrev pub invariant-loop-base : goal.invariant-loop-base
invariant-loop-base l = list_any (builds l.m l.object) (take l.base-index l.bases) ≡ false
