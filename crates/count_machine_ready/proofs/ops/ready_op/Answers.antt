use Rattle.std.proofs.Common.{sym, subst}
use Rattle.holder_model.specs.declared.row_effect.RowEffect.TheVariants as row
use Rattle.count_machine_ready.specs.inner.Bodies.{HasRow}
use Rattle.count_machine_ready.proofs.MadeOps.{function_made, look_made}
use Rattle.count_machine_ready.proofs.ops.ready_op.Goals as goal

pub returns-in-NoEffect : goal.returns-in-NoEffect
returns-in-NoEffect c =
    let row : HasRow c.args.body.now c.args.inst.now row.NoEffect = subst (HasRow c.args.body.now c.args.inst.now) (sym c.in-NoEffect.ensures) c.requires.has in
    look_made c.args.body.now.m.now c.args.body.now.function.now c.args.inst.now row c.operand.result c.operand.ensures

pub returns-in-GivesFunction : goal.returns-in-GivesFunction
returns-in-GivesFunction c =
    let row : HasRow c.args.body.now c.args.inst.now row.GivesFunction =
    subst (HasRow c.args.body.now c.args.inst.now) (sym c.in-GivesFunction.ensures) c.requires.has in
    function_made c.args.body.now.m.now c.args.body.now.function.now c.args.inst.now row c.first_result.result c.first_result.ensures
