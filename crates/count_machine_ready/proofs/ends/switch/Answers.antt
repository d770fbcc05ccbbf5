use Rattle.std.proofs.Common.{sym}
use Rattle.count_machine_ready.specs.inner.Bodies.{declared}
use Rattle.count_machine_ready.proofs.MadeEnds.{switch_made}
use Rattle.count_machine_ready.proofs.ends.switch.Goals as goal

pub returns : goal.returns
returns c =
    switch_made (declared c.args.body.now) c.args.body.now.function.now c.args.inst.now c.requires.has
    c.operand.result c.local.result c.in-Some.ty.now c.in_ok-ready_cases-in-Some.field-0
    c.operand.ensures c.local.ensures (sym c.in-Some.ensures) c.in_ok-ready_cases-in-Some.ensures
