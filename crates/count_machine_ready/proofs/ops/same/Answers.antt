use Rattle.count_machine_ready.proofs.MadeOps.{same_made}
use Rattle.count_machine_ready.proofs.ops.same.Goals as goal

pub returns : goal.returns
returns c =
    same_made c.args.body.now.m.now c.args.body.now.function.now c.args.inst.now c.requires.has
    c.operand.result c.first_result.result c.local.result c.local-2.result c.operand.ensures c.first_result.ensures c.local.ensures c.local-2.ensures
