use Rattle.count_machine_ready.proofs.MadeOps.{removal_made}
use Rattle.count_machine_ready.proofs.ops.removal.Goals as goal

pub returns : goal.returns
returns c = removal_made c.args.body.now.m.now c.args.body.now.function.now c.args.inst.now c.requires.has
    c.operand.result c.address.result c.operand.ensures c.address.ensures
