-- Laws of the entries of frames in a run by holders.
use Rattle.std.specs.Prelude.{◌≡◌, ℕ, Bool, true, false, Some, slice_get}
use Rattle.sil_ast.specs.declared.function.Function.{Function}
use Rattle.sil_ast.specs.declared.module.Module.{Module}
use Rattle.sil_ast.specs.declared.place.FuncId.{FuncId}
use Rattle.holder_model_laws.specs.holder_model.Faults.{ConsumesLent, EmptyPlace, FullPlace, HolderFault}
use Rattle.holder_model_laws.specs.holder_model.Faults.{LeavesHeld, LeavesPlace, LeavesSlot, NamesDead, NoEntry}
use Rattle.holder_model_laws.specs.holder_model.Faults.{NotLastSlot, OverwritesHeld, PlaceNotAsAsked, WrongShape}
use Rattle.holder_model_laws.specs.holder_model.HolderStates.{HolderState}
use Rattle.holder_model_laws.specs.holder_model.ModuleFacts.{facts_of}
use Rattle.holder_model_laws.specs.holder_model.Outcomes.{begins, may_start}
use Rattle.holder_model_laws.specs.holder_model.States.{Ends, Faulted, Goes}
use Rattle.holder_model_laws.specs.holder_model.Steps.{step}
use Rattle.sil_verifier_trails.specs.sil_verifier_accepted.AcceptedModules.inner.Checked.{IsVerified}
use Rattle.sil_verifier_frames.specs.inner.Typed.TypedStates.{IsTypedState}
use Rattle.sil_verifier_frames.specs.inner.Tracked.TrackedStates.{IsTrackedState}

-- the fault is one of entries
abbrev pub is_entry_fault : HolderFault → Bool
is_entry_fault NoEntry = true
is_entry_fault ConsumesLent = true
is_entry_fault NamesDead = false
is_entry_fault EmptyPlace = false
is_entry_fault FullPlace = false
is_entry_fault PlaceNotAsAsked = false
is_entry_fault NotLastSlot = false
is_entry_fault OverwritesHeld = true
is_entry_fault LeavesHeld = true
is_entry_fault LeavesSlot = false
is_entry_fault LeavesPlace = false
is_entry_fault WrongShape = false

-- a run begins in a tracked state
abbrev pub BeginTracked : Type 0
BeginTracked = (m : Module) (e : FuncId) (f : Function) → IsVerified m → slice_get m.functions e.0 ≡ Some f → may_start f ≡ true
    → IsTrackedState m (begins e f)

-- a step leads from a tracked state to a tracked one
abbrev pub AreStepsTracked : Type 0
AreStepsTracked = (m : Module) (bound : ℕ) (s next : HolderState) → IsVerified m → IsTypedState m s → IsTrackedState m s
    → step m (facts_of m) bound s ≡ Goes next → IsTrackedState m next

-- and ends in no fault of entries
abbrev pub AreEntriesRight : Type 0
AreEntriesRight = (m : Module) (bound : ℕ) (s last : HolderState) (x : HolderFault) → IsVerified m → IsTypedState m s → IsTrackedState m s
    → step m (facts_of m) bound s ≡ Ends (Faulted x) last → is_entry_fault x ≡ false
