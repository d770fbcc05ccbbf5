use Rattle.std.proofs.Common.{◌≡◌, drop}
use Rattle.std.specs.List.{flat_map}
use Rattle.numbered_form.specs.PointChecks.inner.Faults.{least}
use Rattle.ownership_kinds.specs.inner.Faults.{ring_faults}
use Rattle.ownership_kinds.proofs.rings.add_rings.Given as goal

abbrev pub invariant-loop-value : goal.invariant-loop-value
invariant-loop-value l =
    least l.found (flat_map (ring_faults l.ring l.point.block.0 l.point.index) (drop l.value-index l.values)) ≡
    least l.initial.found (flat_map (ring_faults l.ring l.point.block.0 l.point.index) l.values)
