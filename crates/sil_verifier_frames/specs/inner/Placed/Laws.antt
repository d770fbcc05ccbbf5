-- Laws of the places on the stack in a run by holders.
use Rattle.std.specs.Prelude.{◌≡◌, ℕ, true, false, Some, slice_get}
use Rattle.holder_model_laws.specs.holder_model.Faults.{HolderFault}
use Rattle.holder_model_laws.specs.holder_model.HolderStates.{HolderState}
use Rattle.holder_model_laws.specs.holder_model.ModuleFacts.{facts_of}
use Rattle.holder_model_laws.specs.holder_model.Outcomes.{begins, may_start}
use Rattle.holder_model_laws.specs.holder_model.States.{Ends, Faulted, Goes}
use Rattle.holder_model_laws.specs.holder_model.Steps.{step}
use Rattle.sil_verifier_trails.specs.sil_verifier_accepted.AcceptedModules.inner.Checked.{IsVerified}
use Rattle.sil_ast.specs.declared.function.Function.{Function}
use Rattle.sil_ast.specs.declared.module.Module.{Module}
use Rattle.sil_ast.specs.declared.place.FuncId.{FuncId}
use Rattle.sil_verifier_frames.specs.inner.Tracked.TrackedStates.{IsTrackedState}
use Rattle.sil_verifier_frames.specs.inner.Typed.TypedStates.{IsTypedState}
use Rattle.sil_verifier_frames.specs.inner.Placed.Items.{AreFieldsFound, is_place_fault}
use Rattle.sil_verifier_frames.specs.inner.Placed.PlaceStates.{AreSlotsRight}

-- a run begins in a state whose places are right
abbrev pub BeginPlaced : Type 0
BeginPlaced = (m : Module) (e : FuncId) (f : Function) → IsVerified m → slice_get m.functions e.0 ≡ Some f → may_start f ≡ true
    → AreSlotsRight m (begins e f)

-- a step leads from such a state to such a one
abbrev pub ArePlacesKept : Type 0
ArePlacesKept = (m : Module) (bound : ℕ) (s next : HolderState) → IsVerified m → IsTypedState m s → IsTrackedState m s → AreSlotsRight m s
    → step m (facts_of m) bound s ≡ Goes next → AreSlotsRight m next

-- and ends in no fault of places, where each field is found as it is asked for
abbrev pub NoPlaceFaults : Type 0
NoPlaceFaults = (m : Module) (bound : ℕ) (s last : HolderState) (x : HolderFault) → IsVerified m → IsTypedState m s → IsTrackedState m s → AreSlotsRight m s
    → AreFieldsFound m bound s → step m (facts_of m) bound s ≡ Ends (Faulted x) last → is_place_fault x ≡ false
