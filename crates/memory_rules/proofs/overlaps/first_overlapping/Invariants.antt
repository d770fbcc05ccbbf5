use Rattle.std.proofs.Common.{◌≡◌, drop, find}
use Rattle.memory_rules.specs.Statics.{clashes_with}
use Rattle.memory_rules.proofs.overlaps.first_overlapping.Given as goal

abbrev pub invariant-loop-second : goal.invariant-loop-second
invariant-loop-second l = find (clashes_with l.m l.first) (drop l.second-index l.later) ≡ find (clashes_with l.m l.first) l.later
