-- What a call of the machine does for an instruction.
use Rattle.std.specs.Prelude.{ℕ}
use Rattle.std.specs.declared.result.Result.{Result}
use Rattle.count_machine_model.specs.declared.machine_steps.frame.Frame.{Frame}
use Rattle.count_machine_model.specs.MachineSteps.Rows.{performs}
use Rattle.count_machine_model.specs.MachineSteps.Views.{MachineView}
use Rattle.count_machine_model.specs.declared.ready_code.function.ReadyModule.{ReadyModule}
use Rattle.count_machine_model.specs.declared.ready_code.op.ReadyOp.{ReadyOp}
use Rattle.count_machine_state.specs.declared.stop.Stop.{Stop}
use Rattle.count_machine_state.specs.GoingOn.{GoesOver}

-- the instruction is performed, in a module, with a bound on turns
abbrev pub PerformsIn : ReadyModule → ℕ → MachineView → Frame → ReadyOp → Result (Unit {0}) Stop → MachineView → Type 0
PerformsIn ready bound old fr o result new = GoesOver old fr (λ rest. performs ready bound old fr rest o) result new

-- the same, whatever the module and the bound
abbrev pub Performs : MachineView → Frame → ReadyOp → Result (Unit {0}) Stop → MachineView → Type 0
Performs old fr o result new = (ready : ReadyModule) (bound : ℕ) → PerformsIn ready bound old fr o result new
