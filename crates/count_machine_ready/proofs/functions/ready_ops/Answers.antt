use Rattle.std.proofs.Common.{refl, subst}
use Rattle.count_machine_ready.specs.inner.Bodies.{IsReadyOp}
use Rattle.count_machine_ready.proofs.Matching.{matched_further, matched_none}
use Rattle.count_machine_ready.proofs.functions.ready_ops.Goals as goal

pub loop-inst-init : goal.loop-inst-init
loop-inst-init c = matched_none (IsReadyOp c.args.body.now) c.args.insts.now c.in_ok-ops.ops c.in_ok-ops.ensures

pub loop-inst-preserved : goal.loop-inst-preserved
loop-inst-preserved c =
    let made = IsReadyOp c.args.body.now in
    let insts = c.args.insts.now in
    matched_further made insts insts c.loop-inst.inst-index c.inst-item.result c.loop-inst.ops c.push.new.self
    c.in_ok-ready_op.field-0 refl c.loop-inst-test.true c.inst-item.is
    c.loop-inst.invariant c.in_ok-push.ensures.ok (subst (λ i. made i c.in_ok-ready_op.field-0) c.get.ensures c.in_ok-ready_op.ensures)
