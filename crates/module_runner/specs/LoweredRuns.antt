-- Runs of what is lowered of a module.
use Rattle.std.specs.Prelude.{◌≡◌, ℕ}
use Rattle.holder_model.specs.Outcomes.{Outcome}
use Rattle.holder_model.specs.States.{Faulted}
use Rattle.holder_model.specs.LoweredRun.LowOutcomes.{LowEndsSo}
use Rattle.holder_model.specs.declared.lowered_run.low_fault.LowFault.{LowFault}
use Rattle.ownership_lowering_model.specs.LoweredModules.{lowered}
use Rattle.sil_ast.specs.declared.module.Module.{Module}
use Rattle.sil_ast.specs.declared.place.FuncId.{FuncId}

-- the run of the lowered module from this function, for this bound on turns, doesn't end in a fault
abbrev pub LoweredNeverFaults : Module → FuncId → ℕ → Type 0
LoweredNeverFaults m e bound = (low : Outcome LowFault) (x : LowFault) → LowEndsSo (lowered m) e bound low → low.ending ≡ Faulted x → ⊥
