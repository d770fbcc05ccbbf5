-- Laws of the objects of runs by holders of accepted modules: they are whole, but for those that frames are building as their trails say.
use Rattle.std.specs.Prelude.{◌≡◌, ℕ, List, ◌∷◌, Bool, true, Contains, Some, slice_get}
use Rattle.sil_verifier_frames.specs.sil_verifier_accepted.AcceptedModules.inner.Checked.{IsVerified}
use Rattle.sil_verifier_frames.specs.holder_model.Data.{AddressOf}
use Rattle.sil_verifier_frames.specs.holder_model.Effects.{effect_of}
use Rattle.sil_verifier_frames.specs.holder_model.Frames.{Frame}
use Rattle.sil_verifier_frames.specs.holder_model.HolderStates.{HolderState}
use Rattle.sil_verifier_frames.specs.holder_model.ModuleFacts.{facts_of}
use Rattle.sil_verifier_frames.specs.holder_model.Outcomes.{begins, may_start}
use Rattle.sil_verifier_frames.specs.holder_model.Standing.{stands_at}
use Rattle.sil_verifier_frames.specs.holder_model.States.{Goes, Runs, Task}
use Rattle.sil_verifier_frames.specs.holder_model.Steps.{step}
use Rattle.sil_verifier_frames.specs.holder_model.declared.row_effect.RowEffect.TheVariants as row
use Rattle.sil_verifier_frames.specs.memory_rules_accesses.Locations.{location_of}
use Rattle.sil_verifier_frames.specs.memory_rules_accesses.Sources.{source_at, sources_of}
use Rattle.sil_verifier_frames.specs.memory_rules_accesses.declared.location.Location.{Location}
use Rattle.sil_verifier_frames.specs.memory_rules_accesses.declared.source.Source.TheVariants as source
use Rattle.sil_verifier_frames.specs.holder_model_laws.HolderLaws.inner.Built.FrameObjects.{Names}
use Rattle.sil_verifier_frames.specs.holder_model_laws.HolderLaws.inner.Held.ObjectStates.{AreObjectsRight}
use Rattle.sil_cfg_items.specs.Items.{item_taken}
use Rattle.sil_cfg_items.specs.Parts.{inst_at}
use Rattle.sil_cfg_items.specs.declared.taken.Taken.{Taken}
use Rattle.holder_model_values.specs.RunValues.Places.{OnStack, Place}
use Rattle.sil_ast.specs.declared.function.Function.{Function}
use Rattle.sil_ast.specs.declared.inst.Inst.{Inst}
use Rattle.sil_ast.specs.declared.module.Module.{Module}
use Rattle.sil_ast.specs.declared.place.FuncId.{FuncId}
use Rattle.sil_ast.specs.declared.place.ValueId.{ValueId}
use Rattle.sil_cfg.specs.declared.item.Item.TheVariants as item
use Rattle.sil_types_declarations.specs.TypeDefinitions.Declarations.{declarations_of}
use Rattle.sil_verifier_frames.specs.inner.Tracked.TrackedStates.{IsTrackedState}
use Rattle.sil_verifier_frames.specs.inner.Typed.TypedStates.{IsTypedState}
use Rattle.sil_verifier_runs.specs.inner.Built.Said.{said}

-- what the first frame's instruction takes by an address that is neither one of a field of an object, nor of what lies in one, is on the stack
abbrev pub AreOthersOnStack : Module → HolderState → Type 0
AreOthersOnStack m s = (frame : Frame) (rest : List (Task Frame)) (f : Function) (i : Inst) → s.tasks ≡ Runs frame ∷ rest
    → slice_get m.functions frame.function.0 ≡ Some f → inst_at f (stands_at f frame.trail) ≡ Some i
    → (y : Taken) → Contains (item_taken f (item.Inst (stands_at f frame.trail))) y
    → (l : Location) → location_of (sources_of (declarations_of m) f) y.value ≡ Some l
    → ((of : ValueId) (k : ℕ) (trivial : Bool) → source_at (sources_of (declarations_of m) f) l.root ≡ source.Field of k trivial → ⊥)
    → (p : Place) → Names frame.entries y.value (AddressOf p) → p.home ≡ OnStack

-- the frame that waits for the first one stands at a call
abbrev pub WaitsAtCall : Module → HolderState → Type 0
WaitsAtCall m s = (callee frame : Frame) (rest : List (Task Frame)) (f : Function) (i : Inst) → s.tasks ≡ Runs callee ∷ Runs frame ∷ rest
    → slice_get m.functions frame.function.0 ≡ Some f → inst_at f (stands_at f frame.trail) ≡ Some i → effect_of i.op ≡ row.CallsFunction

-- what is asked of the places of a state
pub record DoPlacesServe (m : Module) (s : HolderState) : Type 0 where
  pub others : AreOthersOnStack m s
  pub waits : WaitsAtCall m s

-- a run begins so
abbrev pub BeginBuilt : Type 0
BeginBuilt = (m : Module) (e : FuncId) (f : Function) → IsVerified m → slice_get m.functions e.0 ≡ Some f → may_start f ≡ true
    → AreObjectsRight m (said m) (begins e f)

-- and each step keeps it
abbrev pub AreObjectsKept : Type 0
AreObjectsKept = (m : Module) (bound : ℕ) (s next : HolderState) → IsVerified m → IsTypedState m s → IsTrackedState m s → DoPlacesServe m s
    → AreObjectsRight m (said m) s → step m (facts_of m) bound s ≡ Goes next → AreObjectsRight m (said m) next
