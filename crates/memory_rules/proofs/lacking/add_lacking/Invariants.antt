use Rattle.std.proofs.Common.{◌≡◌, drop}
use Rattle.std.specs.List.{flat_map}
use Rattle.numbered_form.specs.PointChecks.inner.Faults.{least}
use Rattle.memory_rules.specs.inner.StaticFaults.{operated_faults}
use Rattle.memory_rules.proofs.lacking.add_lacking.Given as goal

abbrev pub invariant-loop-operated : goal.invariant-loop-operated
invariant-loop-operated l =
    least l.found (flat_map (operated_faults l.m l.point.block.0 l.point.index) (drop l.operated-index l.operations)) ≡
    least l.initial.found (flat_map (operated_faults l.m l.point.block.0 l.point.index) l.operations)
