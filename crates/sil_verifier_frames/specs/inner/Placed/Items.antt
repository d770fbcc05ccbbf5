-- An instruction that isn't a call of a function with a body: the frame behind it holds its places, and no fault of places comes.
use Rattle.std.specs.Prelude.{◌≡◌, ℕ, ℤ, List, [], ◌∷◌, Bool, true, false, Contains, Ok, Some, slice_get}
use Rattle.holder_model_laws.specs.holder_model.Data.{Datum, ValueOf}
use Rattle.holder_model_laws.specs.holder_model.Effects as effects
use Rattle.holder_model_laws.specs.holder_model.Effects.{Change, unchanged}
use Rattle.holder_model_laws.specs.holder_model.Faults.{ConsumesLent, EmptyPlace, FullPlace, HolderFault}
use Rattle.holder_model_laws.specs.holder_model.Faults.{LeavesHeld, LeavesPlace, LeavesSlot, NamesDead, NoEntry}
use Rattle.holder_model_laws.specs.holder_model.Faults.{NotLastSlot, OverwritesHeld, PlaceNotAsAsked, WrongShape}
use Rattle.holder_model_laws.specs.holder_model.Frames.{Frame, Operands, has_any}
use Rattle.holder_model_laws.specs.holder_model.HolderStates.{HolderNext, HolderState}
use Rattle.holder_model_laws.specs.holder_model.MemoryEffects.{asked_before, holds}
use Rattle.holder_model_laws.specs.holder_model.ModuleFacts.{facts_of}
use Rattle.holder_model_laws.specs.holder_model.Standing.{stands_at}
use Rattle.holder_model_laws.specs.holder_model.States.{Ends, Faulted, Goes, OutOfTurns, Returned, Runs, Task, Trapped}
use Rattle.holder_model_laws.specs.holder_model.Steps.{effect_in, numbers_of}
use Rattle.holder_model_laws.specs.holder_model.declared.event.Event.{Event}
use Rattle.holder_model_laws.specs.memory_rules_accesses.Locations.{location_of}
use Rattle.holder_model_laws.specs.memory_rules_accesses.Operations.{operations_of}
use Rattle.holder_model_laws.specs.memory_rules_accesses.Sources.{source_at, sources_of}
use Rattle.holder_model_laws.specs.memory_rules_accesses.declared.access.Operated.{Operated}
use Rattle.holder_model_laws.specs.memory_rules_accesses.declared.access.Operation.{Operation}
use Rattle.holder_model_laws.specs.memory_rules_accesses.declared.location.Location.{Location}
use Rattle.holder_model_laws.specs.memory_rules_accesses.declared.source.Source.TheVariants as source
use Rattle.sil_verifier_trails.specs.sil_verifier_accepted.AcceptedModules.inner.Checked.{IsVerified}
use Rattle.argument_conventions.specs.declared.row.Content.{Content}
use Rattle.holder_model_laws.specs.HolderLaws.inner.Steps.Ways.{GoesBehind, left_with, operands_in, turned}
use Rattle.sil_cfg_items.specs.Parts.{inst_at}
use Rattle.holder_model_values.specs.RunValues.Memory.{Memory}
use Rattle.holder_model_values.specs.RunValues.Places.{Place, is_there_at}
use Rattle.holder_model_values.specs.RunValues.Values as value
use Rattle.sil_ast.specs.declared.function.Function.{Function}
use Rattle.sil_ast.specs.declared.inst.Inst.{Inst}
use Rattle.sil_ast.specs.declared.module.Module.{Module}
use Rattle.sil_ast.specs.declared.place.FuncId.{FuncId}
use Rattle.sil_ast.specs.declared.place.ValueId.{ValueId}
use Rattle.sil_cfg.specs.declared.item.Item.TheVariants as item
use Rattle.sil_types_declarations.specs.TypeDefinitions.Declarations.{declarations_of}
use Rattle.sil_verifier_frames.specs.inner.Tracked.TrackedStates.{IsTrackedState}
use Rattle.sil_verifier_frames.specs.inner.Typed.TypedStates.{IsTypedState}
use Rattle.sil_verifier_frames.specs.inner.Placed.FramePlaces.{Names}
use Rattle.sil_verifier_frames.specs.inner.Placed.PlaceStates.{AreSlotsRight}

-- the fault is one of places
abbrev pub is_place_fault : HolderFault → Bool
is_place_fault NoEntry = false
is_place_fault ConsumesLent = false
is_place_fault NamesDead = false
is_place_fault EmptyPlace = true
is_place_fault FullPlace = true
is_place_fault PlaceNotAsAsked = true
is_place_fault NotLastSlot = true
is_place_fault OverwritesHeld = false
is_place_fault LeavesHeld = false
is_place_fault LeavesSlot = true
is_place_fault LeavesPlace = true
is_place_fault WrongShape = false

-- the place is there, and as the operation asks
abbrev pub IsFoundSo : Memory → Place → Operation → Type 0
IsFoundSo memory p o = (is_there_at memory p ≡ true) × ((c : Content) → asked_before p.is_part o ≡ Some c → holds memory c p ≡ true)

-- so is each field, or part of one, at which the first frame's instruction does something
abbrev pub AreFieldsFound : Module → ℕ → HolderState → Type 0
AreFieldsFound m bound s = (frame : Frame) (rest : List (Task Frame)) (f : Function) (i : Inst) (ops : Operands) → s.tasks ≡ Runs frame ∷ rest
    → slice_get m.functions frame.function.0 ≡ Some f → inst_at f (stands_at f frame.trail) ≡ Some i
    → operands_in m (facts_of m) bound s frame f (item.Inst (stands_at f frame.trail)) ≡ Ok ops → (o : Operated) → Contains (operations_of i) o
    → (l : Location) → location_of (sources_of (declarations_of m) f) o.address ≡ Some l
    → (of : ValueId) (k : ℕ) (trivial : Bool) → source_at (sources_of (declarations_of m) f) l.root ≡ source.Field of k trivial
    → (p : Place) → Names frame.entries o.address p → IsFoundSo s.memory p o.operation

-- what holds of where a step leads, if fields are found so
abbrev pub PlacedNext : Type 0 → Module → HolderNext → Type 0
PlacedNext Found m (Goes s) = AreSlotsRight m s
PlacedNext Found m (Ends (Returned x) s) = Unit {0}
PlacedNext Found m (Ends (Trapped t) s) = Unit {0}
PlacedNext Found m (Ends OutOfTurns s) = Unit {0}
PlacedNext Found m (Ends (Faulted x) s) = Found → is_place_fault x ≡ false

module _ (m : Module) (bound : ℕ) (s : HolderState) (frame : Frame) (rest : List (Task Frame)) (f : Function) (i : Inst) (ops : Operands) where
  -- the first frame stands at an instruction whose operands are found
  pub record StandsAtItem : Type 0 where
    pub verified : IsVerified m
    pub typed : IsTypedState m s
    pub tracked : IsTrackedState m s
    pub placed : AreSlotsRight m s
    pub first : s.tasks ≡ Runs frame ∷ rest
    pub is : slice_get m.functions frame.function.0 ≡ Some f
    pub stands : inst_at f (stands_at f frame.trail) ≡ Some i
    pub found : operands_in m (facts_of m) bound s frame f (item.Inst (stands_at f frame.trail)) ≡ Ok ops

  abbrev pub effect_here : effects.Effect HolderFault
  effect_here = effect_in m (facts_of m) bound s frame i ops.given

  -- what its effect leads to
  pub record IsItemPlaced : Type 0 where
    pub makes : (c : Change) (next : HolderNext) → effect_here ≡ effects.Makes c
        → GoesBehind m (facts_of m) bound s rest (left_with m (facts_of m) bound frame ops) f (item.Inst (stands_at f frame.trail)) c next
        → PlacedNext (AreFieldsFound m bound s) m next
    -- a function without a body is called
    pub calls_out : (g : FuncId) (args : List Datum) (callee : Function) (numbers : List ℤ) (events : List Event) (next : HolderNext)
        → effect_here ≡ effects.Calls g args
        → slice_get m.functions g.0 ≡ Some callee → has_any callee.blocks ≡ false
        → numbers_of m (facts_of m) bound args ≡ Some numbers
        → GoesBehind m (facts_of m) bound (record (turned s) { events = events }) rest (left_with m (facts_of m) bound frame ops) f
        (item.Inst (stands_at f frame.trail))
        (record (unchanged s.memory) { results = ValueOf (value.Group value.NoValue) ∷ [] }) next
        → PlacedNext (AreFieldsFound m bound s) m next
    pub faults : (x : HolderFault) → effect_here ≡ effects.Faults x → AreFieldsFound m bound s → is_place_fault x ≡ false

abbrev pub AreItemsPlaced : Type 0
AreItemsPlaced = (m : Module) (bound : ℕ) (s : HolderState) (frame : Frame) (rest : List (Task Frame)) (f : Function) (i : Inst) (ops : Operands)
    → StandsAtItem m bound s frame rest f i ops → IsItemPlaced m bound s frame rest f i ops
