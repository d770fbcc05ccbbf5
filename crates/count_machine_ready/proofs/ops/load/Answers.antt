use Rattle.count_machine_ready.proofs.MadeOps.{load_made}
use Rattle.count_machine_ready.proofs.ops.load.Goals as goal

pub returns : goal.returns
returns c =
    load_made c.args.body.now.m.now c.args.body.now.function.now c.args.inst.now c.requires.has
    c.operand.result c.first_result.result c.address.result c.local.result c.operand.ensures c.first_result.ensures c.address.ensures c.local.ensures
