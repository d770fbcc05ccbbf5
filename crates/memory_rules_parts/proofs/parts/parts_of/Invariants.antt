use Rattle.std.proofs.Common.{◌≡◌}
use Rattle.std.specs.List.{flat_map, range_with_len}
use Rattle.ownership_kinds_chains.specs.OwnershipMarks.Known.{facts_of}
use Rattle.memory_rules_parts.specs.Parts.{parts_at}
use Rattle.memory_rules_parts.proofs.parts.parts_of.Given as goal

abbrev pub invariant-loop-n : goal.invariant-loop-n
invariant-loop-n l = l.found.items ≡ flat_map (parts_at l.m (facts_of l.k)) (range_with_len 0 l.n)
