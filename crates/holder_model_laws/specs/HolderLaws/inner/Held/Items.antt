-- What keeps the objects of a state right where a frame goes on behind an item, where a function is entered, and where a run begins.
use Rattle.std.specs.Prelude.{◌≡◌, ◌⊎◌, ℕ, List, [], ◌∷◌, true, length, Some, slice_get}
use Rattle.holder_model_laws.specs.HolderLaws.inner.Built.Building.{IsUnfinished, Progress}
use Rattle.holder_model_laws.specs.HolderLaws.inner.Built.FrameObjects.{Names}
use Rattle.holder_model_laws.specs.HolderLaws.inner.Built.Laws.{Begins, HoldsNew, IsMadeNow, IsOutside, IsWrittenNow, WritesField, with_object_of}
use Rattle.holder_model.specs.Calling.{handed_over}
use Rattle.holder_model.specs.Data.{Datum, references_in}
use Rattle.holder_model.specs.Frames.{Entry, Frame, Gone, LentPlace, entry_at}
use Rattle.holder_model.specs.ModuleShapes.{field_shapes, shapes_of}
use Rattle.holder_model.specs.Outcomes.{begins}
use Rattle.holder_model.specs.StepParts.{new_frame}
use Rattle.holder_model.specs.States.{Finishes, Runs, Task, dropping}
use Rattle.memory_rules_parts.specs.memory_rules_accesses.Sources.{source_at, sources_of}
use Rattle.memory_rules_parts.specs.memory_rules_accesses.declared.source.Source.{Source}
use Rattle.memory_rules_parts.specs.memory_rules_accesses.declared.source.Source.TheVariants as source
use Rattle.holder_model_laws.specs.HolderLaws.inner.Cells.Cells.{IsInside}
use Rattle.numbered_form.specs.Lists.{Each}
use Rattle.numbered_form.specs.Names.{Name}
use Rattle.holder_model.specs.holder_model_values.RunValues.inner.Fits.{fits}
use Rattle.holder_model.specs.holder_model_values.RunValues.Memory.{Memory}
use Rattle.holder_model.specs.holder_model_values.RunValues.Places.{OnStack, Place, filled}
use Rattle.holder_model.specs.holder_model_values.RunValues.Values.{Value, references_of}
use Rattle.sil_ast.specs.declared.function.Function.{Function}
use Rattle.sil_ast.specs.declared.module.Module.{Module}
use Rattle.sil_ast.specs.declared.place.FuncId.{FuncId}
use Rattle.sil_ast.specs.declared.place.ObjectId.{ObjectId}
use Rattle.sil_ast.specs.declared.place.ValueId.{ValueId}
use Rattle.sil_cfg.specs.declared.item.Item.{Item}
use Rattle.sil_cfg.specs.declared.item.Item.TheVariants as item
use Rattle.sil_types_declarations.specs.TypeDefinitions.Declarations.{declarations_of}
use Rattle.holder_model_laws.specs.HolderLaws.inner.Whole.Whole.{IsWholeMemory, NameWhole}
use Rattle.holder_model_laws.specs.HolderLaws.inner.Held.ObjectStates.{AreObjectsRight, BelowBuild, FrameBuilds, TasksBuild}
use Rattle.holder_model_laws.specs.HolderLaws.inner.Held.Laws.{StaysBelow}

-- the frame behind an item
abbrev pub frame_behind : Frame → Item → List Entry → List Place → Frame
frame_behind frame i entries slots = record frame { trail = i ∷ frame.trail; entries = entries; slots = slots; lent = [] }

-- entries end, but none of an unfinished object
pub record LosesEntries (sources : List Source) (said : Progress) (entries left : List Entry) : Type 0 where
  pub gone : (v : ValueId) → (entry_at left v ≡ entry_at entries v) ⊎ (entry_at left v ≡ Gone)
  pub kept : (object : ValueId) → IsUnfinished sources said object → entry_at left object ≡ entry_at entries object

module _ (m : Module) (said : Function → List Item → Progress) where
  abbrev pub sources_in : Function → List Source
  sources_in f = sources_of (declarations_of m) f

  -- a frame of the function over these tasks, and what is below
  pub record Stands (memory : Memory) (rest : List (Task Frame)) (frame : Frame) (f : Function) : Type 0 where
    pub is : slice_get m.functions frame.function.0 ≡ Some f
    pub whole : IsWholeMemory memory
    pub builds : FrameBuilds m said memory frame rest
    pub below : BelowBuild m said memory frame rest

  -- ---- items

  -- an item that neither makes a new object nor writes a field of an unfinished one
  pub record IsQuiet (memory later : Memory) (rest : List (Task Frame)) (frame : Frame) (f : Function) (i : Item) (left behind : List Entry) : Type 0 where
    pub loses : LosesEntries (sources_in f) (said f frame.trail) frame.entries left
    pub stays : StaysBelow m said memory later (Runs frame ∷ rest)
    pub unwritten : (w : ValueId) (k : ℕ) → (said f (i ∷ frame.trail)).unwritten w k ≡ (said f frame.trail).unwritten w k
    pub begins : (v : ValueId) → Begins (shapes_of m) (sources_in f) (said f frame.trail) (said f (i ∷ frame.trail)) later left behind v
    pub objects : (object : ValueId) (fields : ℕ) → source_at (sources_in f) object ≡ source.Object fields → entry_at behind object ≡ entry_at left object

  abbrev pub AreQuietRight : Type 0
  AreQuietRight = (memory later : Memory) (rest : List (Task Frame)) (frame : Frame) (f : Function) (i : Item) (left behind : List Entry) (slots : List Place)
      (dropped : List ObjectId) → Stands memory rest frame f → IsQuiet memory later rest frame f i left behind → NameWhole later dropped
      → TasksBuild m said later (dropping dropped (Runs (frame_behind frame i behind slots) ∷ rest))

  -- a field of an unfinished object is written: nothing begins
  pub record IsFieldWrite (memory : Memory) (frame : Frame) (f : Function) (i : Item) (left : List Entry) (p : Place) (x : Value) : Type 0 where
    pub loses : LosesEntries (sources_in f) (said f frame.trail) frame.entries left
    pub object : ValueId
    pub field : ℕ
    pub writes : WritesField (sources_in f) (said f frame.trail) left p object field
    pub now : IsWrittenNow (said f frame.trail) (said f (i ∷ frame.trail)) object field
    pub inside : IsInside memory p
    pub fit : fits p.shape x ≡ true
    pub named : NameWhole memory (references_of x)

  abbrev pub AreFieldWritesRight : Type 0
  AreFieldWritesRight = (memory : Memory) (rest : List (Task Frame)) (frame : Frame) (f : Function) (i : Item) (left : List Entry) (p : Place) (x : Value)
      (slots : List Place) (dropped : List ObjectId) → Stands memory rest frame f → IsFieldWrite memory frame f i left p x
      → NameWhole (filled memory p x) dropped
      → IsWholeMemory (filled memory p x) × TasksBuild m said (filled memory p x) (dropping dropped (Runs (frame_behind frame i left slots) ∷ rest))

  -- an object is made
  pub record IsMaking (memory : Memory) (frame : Frame) (f : Function) (i : Item) (left behind : List Entry) (class : Name) : Type 0 where
    pub loses : LosesEntries (sources_in f) (said f frame.trail) frame.entries left
    pub object : ValueId
    pub count : source_at (sources_in f) object ≡ source.Object (length (field_shapes (shapes_of m) class))
    pub now : IsMadeNow (sources_in f) (said f frame.trail) (said f (i ∷ frame.trail)) object
    pub new : HoldsNew memory left behind object

  abbrev pub AreMakingsRight : Type 0
  AreMakingsRight = (memory : Memory) (rest : List (Task Frame)) (frame : Frame) (f : Function) (i : Item) (left behind : List Entry) (class : Name)
      (slots : List Place) → Stands memory rest frame f → IsMaking memory frame f i left behind class
      → IsWholeMemory (with_object_of (shapes_of m) memory class)
      × TasksBuild m said (with_object_of (shapes_of m) memory class) (Runs (frame_behind frame i behind slots) ∷ rest)

  -- ---- functions that are entered

  -- the entries with which a function is entered: they name whole objects, and nothing is being built yet
  pub record AreEntered (memory : Memory) (f : Function) (entries : List Entry) : Type 0 where
    pub none : (object : ValueId) → IsUnfinished (sources_in f) (said f (item.Entry ∷ [])) object → ⊥
    pub named : (v : ValueId) (x : Datum) → Names entries v x → NameWhole memory (references_in x) × IsOutside (sources_in f) v

  -- places on the stack are handed over
  abbrev pub IsOnStack : Memory → LentPlace → Type 0
  IsOnStack memory l = (l.place.home ≡ OnStack) × IsInside memory l.place

  abbrev pub AreCallsRight : Type 0
  AreCallsRight = (memory : Memory) (rest : List (Task Frame)) (frame : Frame) (f : Function) (left : List Entry)
      (lent : List LentPlace) (g : FuncId) (callee : Function)
      (entries : List Entry) → Stands memory rest frame f → LosesEntries (sources_in f) (said f frame.trail) frame.entries left → Each (IsOnStack memory) lent
      → slice_get m.functions g.0 ≡ Some callee → AreEntered memory callee entries
      → IsWholeMemory (handed_over memory lent)
      × TasksBuild m said (handed_over memory lent) (Runs (new_frame g entries) ∷ Runs (record frame { entries = left; lent = lent }) ∷ rest)

  -- a deinitialiser is called
  abbrev pub AreDeinitsRight : Type 0
  AreDeinitsRight = (memory : Memory) (rest : List (Task Frame)) (gs : List FuncId) (o : ObjectId) (g h : FuncId) (callee : Function) (entries : List Entry)
      → TasksBuild m said memory (Finishes (h ∷ gs) o ∷ rest) → slice_get m.functions g.0 ≡ Some callee → AreEntered memory callee entries
      → TasksBuild m said memory (Runs (new_frame g entries) ∷ Finishes gs o ∷ rest)

  -- a run begins
  abbrev pub BeginRight : Type 0
  BeginRight = (e : FuncId) (f : Function) → slice_get m.functions e.0 ≡ Some f
      → ((object : ValueId) → IsUnfinished (sources_in f) (said f (item.Entry ∷ [])) object → ⊥) → AreObjectsRight m said (begins e f)
