-- What steps keep of the loans of open scopes: the one thing that guards ask of places. A scope that is open behind an item lends the cells that it lent
-- before, and these keep what they kept; a scope that opens over a place lends the cells of what it loads.
use Rattle.std.specs.Prelude.{◌≡◌, ℕ, List, ◌∷◌, true, drop, Ok, Some, slice_get}
use Rattle.sil_cfg_items.specs.Items.{item_defined, item_taken}
use Rattle.sil_cfg_items.specs.Parts.{inst_at}
use Rattle.sil_ast.specs.declared.function.Function.{Function}
use Rattle.sil_ast.specs.declared.inst.Inst.{Inst}
use Rattle.sil_ast.specs.declared.module.Module.{Module}
use Rattle.sil_ast.specs.declared.place.FuncId.{FuncId}
use Rattle.sil_ast.specs.declared.place.ValueId.{ValueId}
use Rattle.sil_cfg.specs.declared.item.Item.{Item}
use Rattle.sil_cfg.specs.declared.item.Item.TheVariants as item
use Rattle.sil_types_declarations.specs.TypeDefinitions.Declarations.{declarations_of}
use Rattle.holder_model_values.specs.RunValues.Memory.{Memory}
use Rattle.holder_model_values.specs.RunValues.Places.{OnStack, Place}
use Rattle.holder_model_values.specs.RunValues.Values.{Value}
use Rattle.numbered_form.specs.ValueTables.Borrows.{is_borrow}
use Rattle.sil_verifier_frames.specs.ownership_kinds_origins.Facts.{facts_in}
use Rattle.sil_verifier_frames.specs.sil_verifier_trails.RunTrails.inner.RunTrails.{ComesAt}
use Rattle.sil_verifier_frames.specs.holder_model.Calling.{are_as_before, handed_over, lent_places}
use Rattle.sil_verifier_frames.specs.holder_model.Data.{AddressOf, Datum}
use Rattle.sil_verifier_frames.specs.holder_model.Effects as effects
use Rattle.sil_verifier_frames.specs.holder_model.Effects.{Change, SameSlots}
use Rattle.sil_verifier_frames.specs.holder_model.Frames.{Entry, Frame, Lent, LentPlace, Operands}
use Rattle.sil_verifier_frames.specs.holder_model.Frames.{datum_in, entry_at, has_any, operands_of, results_put}
use Rattle.sil_verifier_frames.specs.holder_model.HolderStates.{HolderState}
use Rattle.sil_verifier_frames.specs.holder_model.MemoryEffects.{effect}
use Rattle.sil_verifier_frames.specs.holder_model.ModuleFacts.{facts_of}
use Rattle.sil_verifier_frames.specs.holder_model.ModuleShapes.{shapes_in}
use Rattle.sil_verifier_frames.specs.holder_model.Standing.{stands_at}
use Rattle.sil_verifier_frames.specs.holder_model.StepParts.{slots_behind}
use Rattle.sil_verifier_frames.specs.holder_model.States.{Runs, Task, dropping}
use Rattle.sil_verifier_frames.specs.inner.Typed.TypedStates.{IsTypedState}
use Rattle.sil_verifier_frames.specs.inner.Tracked.TrackedStates.{IsTrackedState}
use Rattle.sil_verifier_runs.specs.inner.Guarded.Guards.{IsArgument, KeepsAt, Lending}
use Rattle.sil_verifier_runs.specs.inner.Guarded.GuardedStates.{Loans}
use Rattle.sil_verifier_runs.specs.inner.Guarded.Rows.{LendsLoaded}
use Rattle.sil_verifier_runs.specs.inner.Guarded.Stepping.{KeepLoans, frame_behind, frame_waiting}

-- scopes that are open in these entries lend the same cells still, and these keep what they kept
abbrev pub LendOn : Function → Lending → Lending → Memory → Memory → List Entry → Type 0
LendOn f lends lends' memory later entries = (s : ValueId) (x : Datum) (k : ℕ) (y : Value) → is_borrow f s ≡ true → entry_at entries s ≡ Lent x
    → lends s k ≡ true → KeepsAt memory k y → (lends' s k ≡ true) × KeepsAt later k y

-- Placed: what holds of the places of a state
module _ (m : Module) (loans : Loans) (Placed : HolderState → Type 0) where
  pub record IsPlacedState (s : HolderState) : Type 0 where
    pub typed : IsTypedState m s
    pub tracked : IsTrackedState m s
    pub placed : Placed s

  -- in a state the item comes next in the first frame, and has these operands
  pub record TakesOperands (s : HolderState) (rest : List (Task Frame)) (frame : Frame) (f : Function) (i : Item) (ops : Operands) : Type 0 where
    pub state : IsPlacedState s
    pub tasks : s.tasks ≡ Runs frame ∷ rest
    pub there : slice_get m.functions frame.function.0 ≡ Some f
    pub comes : ComesAt f (stands_at f frame.trail) i
    pub ops_are : operands_of (facts_in (declarations_of m) f) s.memory frame.entries (item_taken f i) ≡ Ok ops

  -- the next state: this frame has gone on behind the item. `entries` are those at which results are put
  pub record LeadsTo (next : HolderState) (rest : List (Task Frame)) (frame : Frame) (f : Function) (i : Item) (c : Change) (entries : List Entry)
      (slots : List Place) (behind : List Entry) : Type 0 where
    pub state : IsPlacedState next
    pub tasks : next.tasks ≡ dropping c.dropped (Runs (frame_behind m loans frame i behind slots) ∷ rest)
    pub memory : next.memory ≡ c.memory
    pub slots_are : slots_behind c.slots frame.slots ≡ Ok slots
    pub put : results_put (facts_in (declarations_of m) f) (item_defined f i) c.results entries ≡ Ok behind

  -- the first frame goes on behind an instruction that leaves this change
  pub record Does (s next : HolderState) (rest : List (Task Frame)) (frame : Frame) (f : Function) (i : Inst) (ops : Operands) (c : Change)
      (slots : List Place) (behind : List Entry) : Type 0 where
    pub takes : TakesOperands s rest frame f (item.Inst (stands_at f frame.trail)) ops
    pub here : inst_at f (stands_at f frame.trail) ≡ Some i
    pub makes : effect (declarations_of m) (facts_of m).shapes (shapes_in (facts_of m).shapes frame.function) s.memory i ops.given ≡ effects.Makes c
    pub leads : LeadsTo next rest frame f (item.Inst (stands_at f frame.trail)) c ops.left slots behind

  -- it goes on, and memory stays as it is: an edge is taken, or a function without a body is called
  pub record Stays (s next : HolderState) (rest : List (Task Frame)) (frame : Frame) (f : Function) (i : Item) (ops : Operands) (c : Change)
      (slots : List Place) (behind : List Entry) : Type 0 where
    pub takes : TakesOperands s rest frame f i ops
    pub memory : c.memory ≡ s.memory
    pub same_slots : c.slots ≡ SameSlots
    pub leads : LeadsTo next rest frame f i c ops.left slots behind

  -- it waits for a function with a body, to which it lends these places
  pub record Calls (s next : HolderState) (rest : List (Task Frame)) (frame : Frame) (f : Function) (i : Inst) (ops : Operands) (g : FuncId)
      (args : List Datum) (lent : List LentPlace) : Type 0 where
    pub takes : TakesOperands s rest frame f (item.Inst (stands_at f frame.trail)) ops
    pub here : inst_at f (stands_at f frame.trail) ≡ Some i
    pub calls : effect (declarations_of m) (facts_of m).shapes (shapes_in (facts_of m).shapes frame.function) s.memory i ops.given ≡ effects.Calls g args
    pub lends : lent_places (drop 1 (item_taken f (item.Inst (stands_at f frame.trail)))) args ≡ lent
    pub callee : Function
    pub callee_is : slice_get m.functions g.0 ≡ Some callee
    pub bodied : has_any callee.blocks ≡ true
    pub before : are_as_before s.memory lent ≡ true
    pub new : Frame
    pub state : IsPlacedState next
    pub tasks : next.tasks ≡ Runs new ∷ Runs (frame_waiting m loans frame ops lent) ∷ rest
    pub memory : next.memory ≡ handed_over s.memory lent

  -- a callee returns to the frame that waits for it
  pub record Resumes (s next : HolderState) (rest : List (Task Frame)) (callee frame : Frame) (f : Function) (c : Change) (slots : List Place)
      (behind : List Entry) : Type 0 where
    pub state : IsPlacedState s
    pub tasks : s.tasks ≡ Runs callee ∷ Runs frame ∷ rest
    pub there : slice_get m.functions frame.function.0 ≡ Some f
    pub memory : c.memory ≡ s.memory
    pub same_slots : c.slots ≡ SameSlots
    pub leads : LeadsTo next rest frame f (item.Inst (stands_at f frame.trail)) c frame.entries slots behind

  pub record LoansAreKept : Type 0 where
    pub lending : (s next : HolderState) (rest : List (Task Frame)) (frame : Frame) (f : Function) (i : Inst) (ops : Operands) (c : Change)
        (slots : List Place) (behind : List Entry) → Does s next rest frame f i ops c slots behind
        → LendOn f (loans f frame) (loans f (frame_behind m loans frame (item.Inst (stands_at f frame.trail)) behind slots)) s.memory c.memory ops.left
    pub below : (s next : HolderState) (rest : List (Task Frame)) (frame : Frame) (f : Function) (i : Inst) (ops : Operands) (c : Change)
        (slots : List Place) (behind : List Entry) → Does s next rest frame f i ops c slots behind → KeepLoans m loans s.memory c.memory rest
    pub loaded : (s next : HolderState) (rest : List (Task Frame)) (frame : Frame) (f : Function) (i : Inst) (ops : Operands) (c : Change)
        (slots : List Place) (behind : List Entry) → Does s next rest frame f i ops c slots behind
        → LendsLoaded f (loans f (frame_behind m loans frame (item.Inst (stands_at f frame.trail)) behind slots)) s.memory c.memory i ops.given
    pub stays : (s next : HolderState) (rest : List (Task Frame)) (frame : Frame) (f : Function) (i : Item) (ops : Operands) (c : Change)
        (slots : List Place) (behind : List Entry) → Stays s next rest frame f i ops c slots behind
        → LendOn f (loans f frame) (loans f (frame_behind m loans frame i behind slots)) s.memory s.memory ops.left
    pub handed : (s next : HolderState) (rest : List (Task Frame)) (frame : Frame) (f : Function) (i : Inst) (ops : Operands) (g : FuncId)
        (args : List Datum) (lent : List LentPlace) → Calls s next rest frame f i ops g args lent
        → LendOn f (loans f frame) (loans f (frame_waiting m loans frame ops lent)) s.memory (handed_over s.memory lent) ops.left
    pub handed_below : (s next : HolderState) (rest : List (Task Frame)) (frame : Frame) (f : Function) (i : Inst) (ops : Operands) (g : FuncId)
        (args : List Datum) (lent : List LentPlace) → Calls s next rest frame f i ops g args lent
        → KeepLoans m loans s.memory (handed_over s.memory lent) rest
    pub resumed : (s next : HolderState) (rest : List (Task Frame)) (callee frame : Frame) (f : Function) (c : Change) (slots : List Place)
        (behind : List Entry) → Resumes s next rest callee frame f c slots behind
        → LendOn f (loans f frame) (loans f (frame_behind m loans frame (item.Inst (stands_at f frame.trail)) behind slots)) s.memory s.memory frame.entries
    -- the places of arguments are on the stack
    pub arguments : (s : HolderState) (rest : List (Task Frame)) (frame : Frame) (f : Function) → IsPlacedState s → s.tasks ≡ Runs frame ∷ rest
        → slice_get m.functions frame.function.0 ≡ Some f → (v : ValueId) (p : Place) → IsArgument f v
        → datum_in (entry_at frame.entries v) ≡ Some (AddressOf p) → p.home ≡ OnStack
