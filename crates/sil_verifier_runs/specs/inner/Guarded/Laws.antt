-- Laws of guards in a run by holders: steps keep states guarded, and no step ends where an operand names a dead object.
use Rattle.std.specs.Prelude.{◌≡◌, ℕ, Bool, true, false}
use Rattle.sil_ast.specs.declared.module.Module.{Module}
use Rattle.sil_verifier_frames.specs.sil_verifier_accepted.AcceptedModules.inner.Checked.{IsVerified}
use Rattle.sil_verifier_frames.specs.holder_model.Faults.{ConsumesLent, EmptyPlace, FullPlace, HolderFault}
use Rattle.sil_verifier_frames.specs.holder_model.Faults.{LeavesHeld, LeavesPlace, LeavesSlot, NamesDead, NoEntry}
use Rattle.sil_verifier_frames.specs.holder_model.Faults.{NotLastSlot, OverwritesHeld, PlaceNotAsAsked, WrongShape}
use Rattle.sil_verifier_frames.specs.holder_model.HolderStates.{HolderState}
use Rattle.sil_verifier_frames.specs.holder_model.ModuleFacts.{facts_of}
use Rattle.sil_verifier_frames.specs.holder_model.States.{Ends, Faulted, Goes}
use Rattle.sil_verifier_frames.specs.holder_model.Steps.{step}
use Rattle.sil_verifier_frames.specs.inner.Typed.TypedStates.{IsTypedState}
use Rattle.sil_verifier_frames.specs.inner.Tracked.TrackedStates.{IsTrackedState}
use Rattle.sil_verifier_runs.specs.inner.Guarded.GuardedStates.{IsGuardedState, Loans}
use Rattle.sil_verifier_runs.specs.inner.Guarded.LoansKept.{IsPlacedState, LoansAreKept}

-- an operand names a dead object
abbrev pub is_dead_fault : HolderFault → Bool
is_dead_fault NoEntry = false
is_dead_fault ConsumesLent = false
is_dead_fault NamesDead = true
is_dead_fault EmptyPlace = false
is_dead_fault FullPlace = false
is_dead_fault PlaceNotAsAsked = false
is_dead_fault NotLastSlot = false
is_dead_fault OverwritesHeld = false
is_dead_fault LeavesHeld = false
is_dead_fault LeavesSlot = false
is_dead_fault LeavesPlace = false
is_dead_fault WrongShape = false

-- a step leads from a guarded state to a guarded one, where open scopes keep what they lend; Placed is what holds of the places of states
abbrev pub AreStepsGuardedWhere : Type 1
AreStepsGuardedWhere = (m : Module) (loans : Loans) (Placed : HolderState → Type 0) (bound : ℕ) (s next : HolderState) → IsVerified m
    → LoansAreKept m loans Placed → IsPlacedState m loans Placed s → IsPlacedState m loans Placed next → IsGuardedState m loans s
    → step m (facts_of m) bound s ≡ Goes next → IsGuardedState m loans next

-- and ends in no fault of dead objects
abbrev pub NoDeadFaults : Type 0
NoDeadFaults = (m : Module) (loans : Loans) (bound : ℕ) (s last : HolderState) (x : HolderFault) → IsVerified m → IsTypedState m s → IsTrackedState m s
    → IsGuardedState m loans s → step m (facts_of m) bound s ≡ Ends (Faulted x) last → is_dead_fault x ≡ false
