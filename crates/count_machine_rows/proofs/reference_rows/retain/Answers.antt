use Rattle.std.proofs.Common.{◌∙◌, Err, subst, sym}
use Rattle.count_machine_model.specs.MachineSteps.Operands.{contents, go_on, objects_among}
use Rattle.count_machine_model.specs.MachineSteps.Turning.{retains_all}
use Rattle.count_machine_model.specs.MachineSteps.Views.{Went}
use Rattle.count_machine_state.specs.Went.{HasGone}
use Rattle.count_machine_rows.proofs.GoingOn.{one_there}
use Rattle.count_machine_state.proofs.MoreReferences.{retained_and_on, retained_or_stopped, retained_tasks}
use Rattle.count_machine_rows.proofs.reference_rows.retain.Goals as goal

pub returns-in-Ok : goal.returns-in-Ok
returns-in-Ok c = λ ready bound rest h.
    let st = c.args.machine.now in
    let fr = c.args.frame.now in
    let os = objects_among (contents st fr c.args.operand) in
    let after = c.retain_value.new.self in
    let tasks = retained_tasks os st after c.in-Ok.ensures ∙ h in
    let on = retained_and_on os st after (λ it. go_on it fr rest) c.in-Ok.ensures in
    one_there st _ fr c.args.operand.value _ _ (sym c.if-not-is_there.ensures)
    (subst (λ (went : Went). HasGone went c.go_on.result c.go_on.new.self) (sym on) (c.go_on.ensures fr rest tasks))

pub returns-in-Err : goal.returns-in-Err
returns-in-Err c = λ ready bound rest h.
    let st = c.args.machine.now in
    let fr = c.args.frame.now in
    let os = objects_among (contents st fr c.args.operand) in
    one_there st c.retain_value.new.self fr c.args.operand.value (retains_all os st (λ it. go_on it fr rest)) (Err c.in-Err.stop) (sym c.if-not-is_there.ensures)
    (retained_or_stopped os st c.retain_value.new.self (λ it. go_on it fr rest) c.in-Err.stop c.in-Err.ensures)
