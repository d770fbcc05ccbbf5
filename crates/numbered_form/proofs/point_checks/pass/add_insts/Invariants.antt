use Rattle.std.proofs.Common.{◌≡◌, drop}
use Rattle.numbered_form.specs.PointChecks.inner.Faults.{least, numbered}
use Rattle.numbered_form.proofs.point_checks.pass.add_insts.Given as goal

abbrev pub invariant-loop-inst : goal.invariant-loop-inst
invariant-loop-inst g l =
    (l.index ≡ l.inst-index) ×
    (least l.found (numbered (g.C.PointCheck.inst_faults l.check l.f l.block.0) l.index (drop l.inst-index l.insts)) ≡
    least l.initial.found (numbered (g.C.PointCheck.inst_faults l.check l.f l.block.0) 0 l.insts))
