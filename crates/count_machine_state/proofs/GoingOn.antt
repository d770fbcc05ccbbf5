-- A frame goes on in the state that a call left.
use Rattle.std.proofs.Common.{◌≡◌, subst}
use Rattle.std.specs.declared.result.Result.{Result}
use Rattle.count_machine_model.specs.declared.machine_steps.frame.Frame.{Frame}
use Rattle.count_machine_model.specs.MachineSteps.Views.{MachineView}
use Rattle.count_machine_state.specs.GoingOn.{GoesOn}
use Rattle.count_machine_state.specs.declared.stop.Stop.{Stop}

-- after a change that leaves the tasks as they were
pub goes_on_in : (fr : Frame) (given after new : MachineView) (result : Result (Unit {0}) Stop) → after ≡ given →
    GoesOn after fr after result new → GoesOn given fr given result new
goes_on_in fr given after new result is goes = subst (λ (st : MachineView). GoesOn st fr st result new) is goes
