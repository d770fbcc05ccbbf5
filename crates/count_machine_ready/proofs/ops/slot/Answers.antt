use Rattle.count_machine_ready.proofs.MadeOps.{slot_made}
use Rattle.count_machine_ready.proofs.ops.slot.Goals as goal

pub returns : goal.returns
returns c =
    slot_made c.args.body.now.m.now c.args.body.now.function.now c.args.inst.now c.requires.has
    c.first_result-result.result c.in-Address.size c.in-Address.storage c.address.result c.first_result-result.ensures c.in-Address.ensures c.address.ensures
