use Rattle.std.proofs.Common.{◌≡◌, drop}
use Rattle.std.specs.List.{flat_map}
use Rattle.numbered_form.specs.PointChecks.inner.Faults.{least}
use Rattle.memory_rules.specs.inner.StaticFaults.{faults_with}
use Rattle.memory_rules.proofs.overlaps.add_overlaps_with.Given as goal

abbrev pub invariant-loop-second : goal.invariant-loop-second
invariant-loop-second l =
    least l.found (flat_map (faults_with l.m l.point.block.0 l.point.index l.first) (drop l.second-index l.later)) ≡
    least l.initial.found (flat_map (faults_with l.m l.point.block.0 l.point.index l.first) l.later)
