use Rattle.std.proofs.Common.{◌≡◌, drop}
use Rattle.std.specs.List.{flat_map}
use Rattle.numbered_form.specs.PointChecks.inner.Faults.{least}
use Rattle.memory_rules.specs.inner.StaticFaults.{pair_faults}
use Rattle.memory_rules.specs.Statics.{pairs_of}
use Rattle.memory_rules.proofs.overlaps.add_overlaps.Given as goal

abbrev pub invariant-loop-i : goal.invariant-loop-i
invariant-loop-i l =
    least l.found (flat_map (pair_faults l.m l.point.block.0 l.point.index) (pairs_of (drop l.i l.addresses))) ≡
    least l.initial.found (flat_map (pair_faults l.m l.point.block.0 l.point.index) (pairs_of l.addresses))
