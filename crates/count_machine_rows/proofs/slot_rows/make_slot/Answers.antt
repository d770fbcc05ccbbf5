use Rattle.std.proofs.Common.{[], subst}
use Rattle.count_machine_model.specs.MachineSteps.Operands.{put_address}
use Rattle.count_machine_model.specs.MachineSteps.Places.{with_slot}
use Rattle.count_machine_model.specs.MachineSteps.Views.{MachineView}
use Rattle.count_machine_model.specs.declared.machine_steps.address.Address.{Address}
use Rattle.count_machine_state.specs.GoingOn.{GoesOn}
use Rattle.count_machine_rows.proofs.slot_rows.make_slot.Goals as goal

pub returns : goal.returns
returns c =
    let fr = c.args.frame.now in
    let GoesBy : MachineView → Address → Type 0 = λ st a. GoesOn st fr (put_address st fr c.args.to a) c.give_address.result c.give_address.new.machine in
    let made = subst (λ (st : MachineView). GoesBy st c.in_ok-address.address) c.in_ok-address.ensures.slot c.give_address.ensures in
    λ ready bound. subst (λ (a : Address). GoesBy (with_slot c.args.machine.now fr [] c.args.size) a) c.in_ok-address.ensures.address made
