-- Laws of runs by holders of accepted modules.
use Rattle.std.specs.Prelude.{◌≡◌, ℕ, true, Some, slice_get}
use Rattle.sil_ast.specs.declared.function.Function.{Function}
use Rattle.sil_ast.specs.declared.module.Module.{Module}
use Rattle.sil_ast.specs.declared.place.FuncId.{FuncId}
use Rattle.sil_verifier_frames.specs.sil_verifier_accepted.AcceptedModules.inner.Checked.{IsVerified}
use Rattle.sil_verifier_frames.specs.holder_model.Faults.{HolderFault}
use Rattle.sil_verifier_frames.specs.holder_model.HolderStates.{HolderState}
use Rattle.sil_verifier_frames.specs.holder_model.ModuleFacts.{facts_of}
use Rattle.sil_verifier_frames.specs.holder_model.Outcomes.{EndsSo, Outcome, begins, may_start, run}
use Rattle.sil_verifier_frames.specs.holder_model.States.{Ends, Faulted, Goes}
use Rattle.sil_verifier_frames.specs.holder_model.Steps.{step}
use Rattle.sil_verifier_runs.specs.inner.RightStates.{IsRightState}

-- so it is of each run of an accepted module from an entry at which one may start
abbrev pub OnRuns : (Module → FuncId → Function → ℕ → Type 0) → Type 0
OnRuns P = (m : Module) (e : FuncId) (f : Function) (bound : ℕ) → IsVerified m → slice_get m.functions e.0 ≡ Some f → may_start f ≡ true → P m e f bound

-- each state that it comes to is right
abbrev pub AreStatesRight : Type 0
AreStatesRight = OnRuns (λ m e f bound. (steps : ℕ) (s : HolderState) → run (step m (facts_of m) bound) steps (begins e f) ≡ Goes s → IsRightState m s)

-- it ends in no fault
abbrev pub NoRunFaults : Type 0
NoRunFaults = OnRuns (λ m e f bound. (steps : ℕ) (s : HolderState) (x : HolderFault)
    → run (step m (facts_of m) bound) steps (begins e f) ≡ Ends (Faulted x) s → ⊥)

-- no outcome of a run of the module tells of a fault, from whichever entry, for every bound on turns
abbrev pub NeverFaults : Module → Type 0
NeverFaults m = (e : FuncId) (f : Function) (bound : ℕ) → slice_get m.functions e.0 ≡ Some f → may_start f ≡ true
    → (outcome : Outcome HolderFault) (x : HolderFault) → EndsSo m e bound outcome → outcome.ending ≡ Faulted x → ⊥

-- and so it is of each accepted module
abbrev pub NoOutcomeFaults : Type 0
NoOutcomeFaults = (m : Module) → IsVerified m → NeverFaults m
