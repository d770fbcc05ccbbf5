-- Laws of typed runs by holders.
use Rattle.std.specs.Prelude.{◌≡◌, ℕ, true, Some, slice_get}
use Rattle.sil_ast.specs.declared.function.Function.{Function}
use Rattle.sil_ast.specs.declared.module.Module.{Module}
use Rattle.sil_ast.specs.declared.place.FuncId.{FuncId}
use Rattle.holder_model_laws.specs.holder_model.Faults.{HolderFault, WrongShape}
use Rattle.holder_model_laws.specs.holder_model.HolderStates.{HolderState}
use Rattle.holder_model_laws.specs.holder_model.ModuleFacts.{facts_of}
use Rattle.holder_model_laws.specs.holder_model.Outcomes.{begins, may_start}
use Rattle.holder_model_laws.specs.holder_model.States.{Ends, Faulted, Goes}
use Rattle.holder_model_laws.specs.holder_model.Steps.{step}
use Rattle.sil_verifier_trails.specs.sil_verifier_accepted.AcceptedModules.inner.Checked.{IsVerified}
use Rattle.sil_verifier_frames.specs.inner.Typed.TypedStates.{IsTypedState}

-- a run begins in a typed state
abbrev pub BeginTyped : Type 0
BeginTyped = (m : Module) (e : FuncId) (f : Function) → IsVerified m → slice_get m.functions e.0 ≡ Some f → may_start f ≡ true
    → IsTypedState m (begins e f)

-- a step leads from a typed state to a typed one
abbrev pub AreStepsTyped : Type 0
AreStepsTyped = (m : Module) (bound : ℕ) (s next : HolderState) → IsVerified m → IsTypedState m s → step m (facts_of m) bound s ≡ Goes next
    → IsTypedState m next

-- and never meets a value of another shape
abbrev pub AreShapesRight : Type 0
AreShapesRight = (m : Module) (bound : ℕ) (s last : HolderState) (x : HolderFault) → IsVerified m → IsTypedState m s
    → step m (facts_of m) bound s ≡ Ends (Faulted x) last → x ≡ WrongShape → ⊥
