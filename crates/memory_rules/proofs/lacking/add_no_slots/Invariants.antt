use Rattle.std.proofs.Common.{◌≡◌, drop}
use Rattle.std.specs.List.{flat_map}
use Rattle.numbered_form.specs.PointChecks.inner.Faults.{least}
use Rattle.memory_rules.specs.inner.StaticFaults.{no_slot_faults}
use Rattle.memory_rules.proofs.lacking.add_no_slots.Given as goal

abbrev pub invariant-loop-address : goal.invariant-loop-address
invariant-loop-address l =
    least l.found (flat_map (no_slot_faults l.m l.point.block.0 l.point.index) (drop l.address-index l.addresses)) ≡
    least l.initial.found (flat_map (no_slot_faults l.m l.point.block.0 l.point.index) l.addresses)
