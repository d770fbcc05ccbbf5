use Rattle.std.proofs.Common.{◌≡◌, drop}
use Rattle.std.specs.List.{flat_map}
use Rattle.numbered_form.specs.PointChecks.inner.Faults.{least}
use Rattle.ownership_kinds.specs.inner.Faults.{arg_faults}
use Rattle.ownership_kinds.specs.inner.Known.{kind_told}
use Rattle.ownership_kinds.proofs.check.add_each.Given as goal

abbrev pub invariant-loop-arg : goal.invariant-loop-arg
invariant-loop-arg l =
    least l.found (flat_map (arg_faults (kind_told l.check.facts.now) l.check.ring l.check.types.now l.switched l.block.0) (drop l.arg-index l.args)) ≡
    least l.initial.found (flat_map (arg_faults (kind_told l.check.facts.now) l.check.ring l.check.types.now l.switched l.block.0) l.args)
