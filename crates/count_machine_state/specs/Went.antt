-- What a call of the machine tells of a step.
use Rattle.std.specs.Prelude.{◌≡◌, Err, Ok}
use Rattle.std.specs.declared.result.Result.{Result}
use Rattle.count_machine_model.specs.MachineSteps.Views.{Goes, MachineView, Stops, Went}
use Rattle.count_machine_state.specs.declared.stop.Stop.{Stop}
use Rattle.count_machine_state.specs.declared.stop.Stop.TheVariants as stop

-- the machine went on to this state, or stopped in it; where there is no memory, nothing is said
abbrev pub HasGone : Went → Result (Unit {0}) Stop → MachineView → Type 0
HasGone went (Ok u) st = went ≡ Goes st
HasGone went (Err (stop.Ends end)) st = went ≡ Stops end st
HasGone went (Err stop.Memory) st = Unit {0}
