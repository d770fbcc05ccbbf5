-- Frames of a run by holders that wait for a callee stand at calls.
use Rattle.std.specs.Prelude.{◌≡◌, ℕ, List, Some, slice_get}
use Rattle.sil_ast.specs.declared.function.Function.{Function}
use Rattle.sil_ast.specs.declared.module.Module.{Module}
use Rattle.sil_ast.specs.declared.place.FuncId.{FuncId}
use Rattle.sil_verifier_runs.specs.holder_model.Frames.{Frame}
use Rattle.sil_verifier_runs.specs.holder_model.HolderStates.{HolderState}
use Rattle.sil_verifier_runs.specs.holder_model.ModuleFacts.{facts_of}
use Rattle.sil_verifier_runs.specs.holder_model.Outcomes.{begins}
use Rattle.sil_verifier_runs.specs.holder_model.States.{Goes, Task}
use Rattle.sil_verifier_runs.specs.holder_model.Steps.{step}
use Rattle.sil_verifier_runs.specs.holder_model_laws.HolderLaws.inner.Steps.Stacks.{Below, Going}
use Rattle.ownership_lowering_runs.specs.StoredRuns.inner.Returned.{WaitsAtCall}

module _ (m : Module) where
  abbrev pub AwaitsCall : Frame → Frame → List (Task Frame) → Type 0
  AwaitsCall callee frame rest = (f : Function) → slice_get m.functions frame.function.0 ≡ Some f → WaitsAtCall f frame

  -- nothing is said of frames that go on, of drops and of deinitialisations
  abbrev pub AreAwaited : List (Task Frame) → Type 0
  AreAwaited tasks =
      Going (λ frame rest. Unit {0}) AwaitsCall (λ callee o. Unit {0}) (λ references. Unit {0}) (λ deinits o. Unit {0}) tasks

  abbrev pub AreAwaitedBelow : Frame → List (Task Frame) → Type 0
  AreAwaitedBelow callee tasks =
      Below (λ frame rest. Unit {0}) AwaitsCall (λ callee o. Unit {0}) (λ references. Unit {0}) (λ deinits o. Unit {0}) callee tasks

abbrev pub BeginAwaited : Type 0
BeginAwaited = (m : Module) (e : FuncId) (f : Function) → AreAwaited m (begins e f).tasks

abbrev pub AreStepsAwaited : Type 0
AreStepsAwaited = (m : Module) (bound : ℕ) (s next : HolderState) → AreAwaited m s.tasks → step m (facts_of m) bound s ≡ Goes next → AreAwaited m next.tasks
