use Rattle.count_machine_ready.proofs.MadeGroups.{compute_made}
use Rattle.count_machine_ready.specs.inner.BuiltinsTold.{builtin_told}
use Rattle.count_machine_ready.proofs.ops.compute_by.Goals as goal

pub returns : goal.returns
returns c =
    compute_made c.args.body.now.m.now c.args.body.now.function.now c.args.inst.now c.requires.has
    (builtin_told c.args.builtin) c.operand.result c.operand-2.result c.first_result.result c.local.result
    c.local-2.result c.local-3.result c.value_at.result c.requires.named
    c.operand.ensures c.operand-2.ensures c.first_result.ensures c.local.ensures c.local-2.ensures c.value_at.ensures c.local-3.ensures
