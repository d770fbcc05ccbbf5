use Rattle.std.proofs.Common.{◌≡◌, take}
use Rattle.std.specs.List.{flat_map}
use Rattle.memory_rules.specs.Statics.{handed}
use Rattle.memory_rules.proofs.overlaps.handed_addresses.Given as goal

abbrev pub invariant-loop-operated : goal.invariant-loop-operated
invariant-loop-operated l = l.found.items ≡ flat_map handed (take l.operated-index l.operations)
