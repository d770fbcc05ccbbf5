use Rattle.std.proofs.Common.{sym, subst}
use Rattle.std.proofs.Math.Facts.{to_z-of_z}
use Rattle.count_machine_model.specs.declared.ready_code.op.ReadyOp.TheVariants.{Literal}
use Rattle.count_machine_ready.specs.inner.Bodies.{IsReadyOp}
use Rattle.count_machine_ready.proofs.MadeOps.{literal_made}
use Rattle.count_machine_ready.proofs.ops.literal_by.Goals as goal

pub returns : goal.returns
returns c =
    subst (λ n. IsReadyOp c.args.body.now c.args.inst.now (Literal n c.local.result)) (sym (to_z-of_z c.ranges.number))
    (literal_made c.args.body.now.m.now c.args.body.now.function.now c.args.inst.now c.requires.has c.args.number
    c.first_result.result c.local.result c.requires.written c.first_result.ensures c.local.ensures)
