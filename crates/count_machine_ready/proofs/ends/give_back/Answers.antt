use Rattle.count_machine_ready.specs.inner.Bodies.{declared}
use Rattle.count_machine_ready.proofs.MadeEnds.{return_made}
use Rattle.count_machine_ready.proofs.ends.give_back.Goals as goal

pub returns : goal.returns
returns c =
    return_made (declared c.args.body.now) c.args.body.now.function.now c.args.inst.now c.requires.has
    c.operand.result c.local.result c.operand.ensures c.local.ensures
