use Rattle.std.proofs.Common.{sym, ap}
use Rattle.count_machine_model.specs.MachineSteps.Views.{MachineView, Stops}
use Rattle.count_machine_model.specs.declared.machine_steps.run_end.RunEnd.TheVariants.{Fault}
use Rattle.holder_model.specs.declared.lowered_run.low_fault.LowFault.TheVariants as fault
use Rattle.count_machine_state.proofs.GoingOn.{goes_on_in}
use Rattle.count_machine_rows.proofs.Options.{none_told, some_told}
use Rattle.count_machine_rows.proofs.load_rows.load_field.Goals as goal

pub returns-then-not-put_from_field : goal.returns-then-not-put_from_field
returns-then-not-put_from_field c = λ rest h.
    let none = none_told _ _ _ (sym c.if-not-put_from_field.ensures.written) c.if-not-put_from_field.ensures.put in
    rw (c.fault-then-not-put_from_field.ensures, ← c.if-is_dead.ensures, none.0) (ap (λ (st : MachineView). Stops (Fault fault.Empty) st) (sym none.1))

pub returns : goal.returns
returns c = λ rest h.
    let some = some_told _ _ _ (sym c.if-not-put_from_field.ensures.written) c.if-not-put_from_field.ensures.put in
    rw (← c.if-is_dead.ensures, some.1) (goes_on_in _ _ _ _ _ some.2 (c.go_on.ensures c.args.frame.now) rest h)
