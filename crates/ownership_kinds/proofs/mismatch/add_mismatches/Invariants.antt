use Rattle.std.proofs.Common.{◌≡◌, drop}
use Rattle.std.specs.List.{flat_map}
use Rattle.numbered_form.specs.PointChecks.inner.Faults.{least}
use Rattle.ownership_kinds.specs.inner.Faults.{taken_faults}
use Rattle.ownership_kinds.specs.inner.Known.{kind_told}
use Rattle.ownership_kinds.proofs.mismatch.add_mismatches.Given as goal

abbrev pub invariant-loop-one : goal.invariant-loop-one
invariant-loop-one l =
    least l.found (flat_map (taken_faults (kind_told l.facts) l.borrows l.point.block.0 l.point.index) (drop l.one-index l.taken)) ≡
    least l.initial.found (flat_map (taken_faults (kind_told l.facts) l.borrows l.point.block.0 l.point.index) l.taken)
