use Rattle.std.proofs.Common.{ap, ◌∙◌, arith}
use Rattle.numbered_form.specs.PointChecks.inner.Faults.{least, numbered}
use Rattle.numbered_form.proofs.PointChecks.Least.{numbered_item}
use Rattle.numbered_form.proofs.point_checks.pass.add_insts.Goals as goal

pub loop-inst-preserved : goal.loop-inst-preserved
loop-inst-preserved g c =
    let faults = g.C.PointCheck.inst_faults c.args.check.now c.args.f.now in (
      omega arith,
      numbered_item (faults c.args.block.0) c.args.insts.now c.loop-inst.inst-index c.loop-inst.index c.inst-item.result c.loop-inst.found c.in_ok-found.found
          (least c.args.found (numbered (faults c.args.block.0) 0 c.args.insts.now)) c.loop-inst-test.true c.inst-item.is c.loop-inst.invariant.1
          (c.in_ok-found.ensures ∙ ap (λ i. least c.loop-inst.found (faults c.args.block.0 c.loop-inst.index i)) c.get.ensures),
    )
