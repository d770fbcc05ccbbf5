-- The lowered run ends as the run by holders does.
use Rattle.std.specs.Prelude.{◌≡◌, ℕ, true, Some, slice_get}
use Rattle.sil_ast.specs.declared.function.Function.{Function}
use Rattle.sil_ast.specs.declared.module.Module.{Module}
use Rattle.sil_ast.specs.declared.place.FuncId.{FuncId}
use Rattle.holder_model_values.specs.RunValues.Values.{Value}
use Rattle.sil_verifier_runs.specs.holder_model.declared.trap.Trap.{Trap}
use Rattle.sil_verifier_runs.specs.holder_model.Faults.{HolderFault}
use Rattle.sil_verifier_runs.specs.holder_model.HolderStates.{HolderNext}
use Rattle.sil_verifier_runs.specs.holder_model.Outcomes.{EndsSo, Outcome, may_start, outcome_at}
use Rattle.sil_verifier_runs.specs.holder_model.States.{Ending, Ends, Goes, OutOfTurns, Returned, Trapped}
use Rattle.sil_verifier_runs.specs.holder_model.declared.lowered_run.low_fault.LowFault.{LowFault}
use Rattle.sil_verifier_runs.specs.holder_model.LoweredRun.LowOutcomes.{LowEndsSo, low_outcome_at}
use Rattle.sil_verifier_runs.specs.holder_model.LoweredRun.LowStepParts.{LowNext}
use Rattle.ownership_lowering_laws.specs.ownership_lowering_model.LoweredModules.{lowered}
use Rattle.sil_verifier_runs.specs.sil_verifier_accepted.AcceptedModules.inner.Checked.{IsVerified}
use Rattle.ownership_lowering_runs.specs.StoredRuns.inner.States.{IsStateFor}

-- the same ending, and no fault
pub data IsEndingFor : Ending HolderFault → Ending LowFault → Type 0 where
  returned : (x : Value) → IsEndingFor (Returned x) (Returned x)
  trapped : (t : Trap) → IsEndingFor (Trapped t) (Trapped t)
  out_of_turns : IsEndingFor OutOfTurns OutOfTurns

pub record IsOutcomeFor (o : Outcome HolderFault) (low : Outcome LowFault) : Type 0 where
  pub events : low.events ≡ o.events
  pub ending : IsEndingFor o.ending low.ending
  pub left : low.left ≡ o.left
  pub retains : low.retains ≡ o.retains
  pub releases : low.releases ≡ o.releases

-- both go on, or both end
abbrev pub IsNextFor : Module → HolderNext → LowNext → Type 0
IsNextFor m (Goes s) (Goes l) = IsStateFor m s l
IsNextFor m (Goes s) (Ends e l) = ⊥
IsNextFor m (Ends e s) (Goes l) = ⊥
IsNextFor m (Ends e s) (Ends x l) = IsOutcomeFor (outcome_at e s) (low_outcome_at x l)

-- where the run by holders of an accepted module ends, the lowered one does so too, and the other way round
pub record AreRunsSame (m : Module) (e : FuncId) (bound : ℕ) : Type 0 where
  pub forth : (o : Outcome HolderFault) → EndsSo m e bound o → (low : Outcome LowFault) × LowEndsSo (lowered m) e bound low × IsOutcomeFor o low
  pub back : (low : Outcome LowFault) → LowEndsSo (lowered m) e bound low → (o : Outcome HolderFault) × EndsSo m e bound o × IsOutcomeFor o low

abbrev pub LoweredRunsAreSame : Type 0
LoweredRunsAreSame = (m : Module) (e : FuncId) (f : Function) (bound : ℕ) → IsVerified m → slice_get m.functions e.0 ≡ Some f → may_start f ≡ true
    → AreRunsSame m e bound
