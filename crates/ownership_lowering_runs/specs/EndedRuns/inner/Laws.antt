-- Laws of all runs: each run ends, by holders and of lowered code, and both runs of an accepted module end alike.
use Rattle.std.specs.Prelude.{◌≡◌, ℕ, true, Some, slice_get}
use Rattle.sil_ast.specs.declared.function.Function.{Function}
use Rattle.sil_ast.specs.declared.module.Module.{Module}
use Rattle.sil_ast.specs.declared.place.FuncId.{FuncId}
use Rattle.sil_verifier_runs.specs.sil_verifier_accepted.AcceptedModules.inner.Checked.{IsVerified}
use Rattle.sil_verifier_runs.specs.holder_model.Faults.{HolderFault}
use Rattle.sil_verifier_runs.specs.holder_model.Outcomes.{EndsSo, Outcome, may_start}
use Rattle.sil_verifier_runs.specs.holder_model.declared.lowered_run.low_fault.LowFault.{LowFault}
use Rattle.sil_verifier_runs.specs.holder_model.LoweredRun.LowOutcomes.{LowEndsSo}
use Rattle.ownership_lowering_laws.specs.ownership_lowering_model.LoweredModules.{lowered}
use Rattle.ownership_lowering_runs.specs.StoredRuns.inner.Runs.{IsOutcomeFor}

-- each run by holders has an outcome: of each module, from each function, for each bound on turns
abbrev pub RunsEnd : Type 0
RunsEnd = (m : Module) (e : FuncId) (f : Function) (bound : ℕ) → slice_get m.functions e.0 ≡ Some f → (o : Outcome HolderFault) × EndsSo m e bound o

-- and so has each run of lowered code
abbrev pub LoweredRunsEnd : Type 0
LoweredRunsEnd = (m : Module) (e : FuncId) (f : Function) (bound : ℕ) → slice_get m.functions e.0 ≡ Some f → (o : Outcome LowFault) × LowEndsSo m e bound o

-- the run by holders of the module ends, and the run of what it is lowered to tells the same
pub record EndsAlike (m : Module) (e : FuncId) (bound : ℕ) : Type 0 where
  pub outcome : Outcome HolderFault
  pub ends : EndsSo m e bound outcome
  pub low : Outcome LowFault
  pub low_ends : LowEndsSo (lowered m) e bound low
  pub same : IsOutcomeFor outcome low

abbrev pub RunsEndAlike : Type 0
RunsEndAlike = (m : Module) (e : FuncId) (f : Function) (bound : ℕ) → IsVerified m → slice_get m.functions e.0 ≡ Some f → may_start f ≡ true
    → EndsAlike m e bound
