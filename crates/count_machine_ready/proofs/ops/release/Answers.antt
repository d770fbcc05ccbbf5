use Rattle.count_machine_ready.proofs.MadeOps.{release_made}
use Rattle.count_machine_ready.proofs.ops.release.Goals as goal

pub returns : goal.returns
returns c = release_made c.args.body.now.m.now c.args.body.now.function.now c.args.inst.now c.requires.has
    c.operand.result c.local.result c.operand.ensures c.local.ensures
