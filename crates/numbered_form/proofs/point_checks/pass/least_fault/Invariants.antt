use Rattle.std.proofs.Common.{◌≡◌, drop, None}
use Rattle.numbered_form.specs.PointChecks.inner.Faults.{block_faults, faults_of, least, numbered}
use Rattle.numbered_form.proofs.point_checks.pass.least_fault.Given as goal

abbrev pub invariant-loop-number : goal.invariant-loop-number
invariant-loop-number g l =
    least l.found (numbered (block_faults (g.C.PointCheck.args_faults l.check l.f) (g.C.PointCheck.inst_faults l.check l.f)) l.number (drop l.number l.f.blocks)) ≡
    least None (faults_of (g.C.PointCheck.args_faults l.check l.f) (g.C.PointCheck.inst_faults l.check l.f) l.f)
