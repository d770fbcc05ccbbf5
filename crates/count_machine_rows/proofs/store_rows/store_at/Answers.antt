use Rattle.std.proofs.Common.{subst, sym}
use Rattle.count_machine_model.specs.declared.machine_steps.address.Home.{Home}
use Rattle.count_machine_state.specs.GoingOn.{GoesOver}
use Rattle.count_machine_rows.specs.inner.Storing.{placed, stores_at}
use Rattle.count_machine_rows.proofs.store_rows.store_at.Goals as goal

pub returns-in-Slot : goal.returns-in-Slot
returns-in-Slot c =
    let a = c.args.place in
    subst (λ (h : Home). GoesOver c.args.machine.now c.args.frame.now (stores_at c.args.machine.now c.args.frame.now c.args.from
    (placed h a.from a.is_part)) c.store_in_slot.result c.store_in_slot.new.machine)
    (sym c.in-Slot.is) c.store_in_slot.ensures

pub returns-in-Field : goal.returns-in-Field
returns-in-Field c =
    let a = c.args.place in
    subst (λ (h : Home). GoesOver c.args.machine.now c.args.frame.now (stores_at c.args.machine.now c.args.frame.now c.args.from
    (placed h a.from a.is_part)) c.store_in_field.result c.store_in_field.new.machine)
    (sym c.in-Field.is) c.store_in_field.ensures
