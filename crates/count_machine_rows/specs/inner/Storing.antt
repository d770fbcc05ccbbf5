-- A value that is put at a place, by what the place is.
use Rattle.std.specs.Prelude.{ℕ, Bool, List}
use Rattle.count_machine_model.specs.MachineSteps.Held.{held_at}
use Rattle.count_machine_model.specs.MachineSteps.Operands.{contents}
use Rattle.count_machine_model.specs.MachineSteps.Places.{stores}
use Rattle.count_machine_model.specs.MachineSteps.Views.{MachineView, Went}
use Rattle.count_machine_model.specs.declared.machine_steps.address.Address.{Address}
use Rattle.count_machine_model.specs.declared.machine_steps.address.Home.{Home}
use Rattle.count_machine_model.specs.declared.machine_steps.frame.Frame.{Frame}
use Rattle.count_machine_model.specs.declared.machine_steps.frame.Task.{Task}
use Rattle.count_machine_model.specs.declared.ready_code.local.Local.{Local}

abbrev pub placed : Home → ℕ → Bool → Address
placed h from is_part = record { home = h; from = from; is_part = is_part }

abbrev pub stores_at : MachineView → Frame → Local → Address → List Task → Went
stores_at st fr from a rest = stores st fr rest a (contents st fr from) (held_at st a from.size)
