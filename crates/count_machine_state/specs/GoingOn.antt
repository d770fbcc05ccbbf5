-- What a call of the machine does, where its frame is the one that goes on.
use Rattle.std.specs.Prelude.{◌≡◌, List, ◌∷◌, Option, Some, None}
use Rattle.std.specs.declared.result.Result.{Result}
use Rattle.count_machine_model.specs.declared.machine_steps.frame.Frame.{Frame}
use Rattle.count_machine_model.specs.declared.machine_steps.frame.Task.{Task}
use Rattle.count_machine_model.specs.declared.machine_steps.frame.Task.TheVariants.{Drops, Finishes, Runs}
use Rattle.count_machine_model.specs.MachineSteps.Operands.{go_on}
use Rattle.count_machine_model.specs.MachineSteps.Views.{MachineView, Went}
use Rattle.count_machine_state.specs.Went.{HasGone}
use Rattle.count_machine_state.specs.declared.stop.Stop.{Stop}

-- where the frame is the one that goes on, over some tasks, the machine went as told for these
abbrev pub GoesOver : MachineView → Frame → (List Task → Went) → Result (Unit {0}) Stop → MachineView → Type 0
GoesOver old fr went result new = (rest : List Task) → old.tasks ≡ Runs fr ∷ rest → HasGone (went rest) result new

-- the frame goes on behind its instruction, in this state
abbrev pub GoesOn : MachineView → Frame → MachineView → Result (Unit {0}) Stop → MachineView → Type 0
GoesOn old fr given result new = GoesOver old fr (go_on given fr) result new

-- the frame that a task is
abbrev pub frame_of : Option Task → Option Frame
frame_of None = None
frame_of (Some (Runs fr)) = Some fr
frame_of (Some (Drops from)) = None
frame_of (Some (Finishes o called)) = None
