-- What a call of the machine tells of some steps.
use Rattle.std.specs.Prelude.{ℕ, Bool, true, false, List, [], ◌∷◌, Err, Ok}
use Rattle.std.specs.declared.result.Result.{Result}
use Rattle.count_machine_model.specs.declared.ready_code.function.ReadyModule.{ReadyModule}
use Rattle.count_machine_model.specs.declared.machine_steps.frame.Task.{Task}
use Rattle.count_machine_model.specs.declared.machine_steps.frame.Task.TheVariants.{Drops, Finishes, Runs}
use Rattle.count_machine_model.specs.MachineSteps.Runs.{Leads}
use Rattle.count_machine_model.specs.MachineSteps.Views.{Goes, MachineView, Stops}
use Rattle.count_machine_state.specs.declared.stop.Stop.{Stop}
use Rattle.count_machine_state.specs.declared.stop.Stop.TheVariants as stop

-- some steps led to a stop in this state; where there is no memory, nothing is said
abbrev pub HasEnded : ReadyModule → ℕ → MachineView → Stop → MachineView → Type 0
HasEnded ready bound old (stop.Ends end) new = Leads ready bound old (Stops end new)
HasEnded ready bound old stop.Memory new = Unit {0}

-- some steps led to this state, or to a stop in it
abbrev pub HasLed : ReadyModule → ℕ → MachineView → Result (Unit {0}) Stop → MachineView → Type 0
HasLed ready bound old (Ok u) new = Leads ready bound old (Goes new)
HasLed ready bound old (Err stop) new = HasEnded ready bound old stop new

-- a drop goes on
abbrev pub is_dropping : List Task → Bool
is_dropping [] = false
is_dropping (Runs fr ∷ rest) = false
is_dropping (Drops from ∷ rest) = true
is_dropping (Finishes o called ∷ rest) = false
