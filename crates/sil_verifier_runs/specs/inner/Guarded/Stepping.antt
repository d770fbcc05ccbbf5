-- What keeps the memory and the tasks of a state guarded, way by way.
use Rattle.std.specs.Prelude.{◌≡◌, ◌≤◌, ℕ, List, [], ◌∷◌, true, false, Ok, Some, slice_get}
use Rattle.sil_ast.specs.declared.decl.Storage.TheVariants as storage
use Rattle.sil_ast.specs.declared.function.Function.{Function}
use Rattle.sil_ast.specs.declared.module.Module.{Module}
use Rattle.sil_ast.specs.declared.place.FuncId.{FuncId}
use Rattle.sil_ast.specs.declared.place.ObjectId.{ObjectId}
use Rattle.sil_ast.specs.declared.place.ValueId.{ValueId}
use Rattle.sil_cfg.specs.declared.item.Item.{Item}
use Rattle.sil_cfg.specs.declared.item.Item.TheVariants as item
use Rattle.sil_cfg_items.specs.Items.{item_defined, item_taken}
use Rattle.sil_types_declarations.specs.TypeDefinitions.Declarations.{declarations_of}
use Rattle.holder_model_values.specs.declared.run_values.phase.Phase.TheVariants.{Deiniting}
use Rattle.holder_model_values.specs.RunValues.Memory.{Memory, is_dead, is_live, object_at, phase_of, with_object}
use Rattle.holder_model_values.specs.RunValues.Places.{Place}
use Rattle.holder_model_values.specs.RunValues.Values.{Value}
use Rattle.numbered_form.specs.ValueTables.Borrows.{is_borrow}
use Rattle.sil_verifier_frames.specs.sil_verifier_trails.AcceptedTrails.inner.Bases.{IsBaseOf}
use Rattle.sil_verifier_frames.specs.sil_verifier_trails.AcceptedTrails.inner.Defined.{makes}
use Rattle.sil_verifier_frames.specs.sil_verifier_trails.AcceptedTrails.inner.Lives.{BorrowsFrom}
use Rattle.sil_verifier_frames.specs.ownership_kinds_origins.Facts.{facts_in}
use Rattle.sil_verifier_frames.specs.sil_verifier_values.inner.Known.{kind_at}
use Rattle.sil_verifier_frames.specs.holder_model.Calling.{value_count}
use Rattle.sil_verifier_frames.specs.holder_model.Data.{Datum, references_in}
use Rattle.sil_verifier_frames.specs.holder_model.Dropping.{ended, field_references, in_phase}
use Rattle.sil_verifier_frames.specs.holder_model.Frames.{Entry, Frame, Lent, LentPlace, Operands}
use Rattle.sil_verifier_frames.specs.holder_model.Frames.{entry_at, made_entry, no_entries, operands_of, results_put}
use Rattle.sil_verifier_frames.specs.holder_model.Holders.{in_memory, one_object}
use Rattle.sil_verifier_frames.specs.holder_model.StepParts.{new_frame}
use Rattle.sil_verifier_frames.specs.holder_model.States.{Drops, Finishes, Runs, Task, dropping}
use Rattle.sil_verifier_frames.specs.holder_model.Effects.{Change, SameSlots}
use Rattle.sil_verifier_frames.specs.holder_model_laws.HolderLaws.inner.Counts.Naming.{HoldsNone, in_datum}
use Rattle.sil_verifier_runs.specs.inner.Guarded.Guards.{IsArgument, IsNamed, IsThere, KeepsAt}
use Rattle.sil_verifier_runs.specs.inner.Guarded.GuardedStates.{IsGuardedIn, IsGuardedRun, Loans, holders_in, is_deiniting_phase}
use Rattle.sil_verifier_runs.specs.inner.Guarded.Kept.{ArePutRight}

-- ---- memory

-- no object dies, and none starts or stops to deinitialise
pub record KeepsPhases (memory later : Memory) : Type 0 where
  pub dead : (o : ObjectId) → is_dead later o ≡ true → is_dead memory o ≡ true
  pub deiniting : (o : ObjectId) → is_deiniting_phase (phase_of later o) ≡ is_deiniting_phase (phase_of memory o)

module _ (m : Module) (loans : Loans) where
  -- what the open scopes of a frame lend is kept while memory changes
  abbrev pub KeepsLoans : Memory → Memory → Frame → Type 0
  KeepsLoans memory later frame = (f : Function) (s : ValueId) (x : Datum) (k : ℕ) (y : Value) → slice_get m.functions frame.function.0 ≡ Some f
      → is_borrow f s ≡ true → entry_at frame.entries s ≡ Lent x → loans f frame s k ≡ true → KeepsAt memory k y → KeepsAt later k y

  abbrev pub KeepLoans : Memory → Memory → List (Task Frame) → Type 0
  KeepLoans memory later [] = Unit {0}
  KeepLoans memory later (Runs frame ∷ rest) = KeepsLoans memory later frame × KeepLoans memory later rest
  KeepLoans memory later (Drops references ∷ rest) = KeepLoans memory later rest
  KeepLoans memory later (Finishes deinits o ∷ rest) = KeepLoans memory later rest

  -- ---- an item

  -- what open scopes borrow doesn't end, where the scopes don't
  abbrev pub KeepsBorrowed : Function → List Entry → List Entry → Type 0
  KeepsBorrowed f entries left = (s b : ValueId) (x : Datum) → is_borrow f s ≡ true → entry_at entries s ≡ Lent x → IsThere (entry_at left s)
      → BorrowsFrom (declarations_of m) f s b → IsThere (entry_at entries b) → IsThere (entry_at left b)

  -- the frame behind an item
  abbrev pub frame_behind : Frame → Item → List Entry → List Place → Frame
  frame_behind frame i entries slots = record frame { trail = i ∷ frame.trail; entries = entries; slots = slots; lent = [] }

  -- the frame goes on behind an item: what its ends, its results and the new memory keep
  pub record GoesOnGuarded (memory : Memory) (rest : List (Task Frame)) (frame : Frame) (f : Function) (i : Item) (ops : Operands) (c : Change)
      (slots : List Place) (entries : List Entry) : Type 0 where
    pub is : slice_get m.functions frame.function.0 ≡ Some f
    pub ops_are : operands_of (facts_in (declarations_of m) f) memory frame.entries (item_taken f i) ≡ Ok ops
    pub put : results_put (facts_in (declarations_of m) f) (item_defined f i) c.results ops.left ≡ Ok entries
    pub borrowed : KeepsBorrowed f frame.entries ops.left
    -- the entry alone makes arguments
    pub arguments : (a : ValueId) → IsArgument f a → makes f a i ≡ false
    pub right : ArePutRight (declarations_of m) f (loans f frame) (loans f (frame_behind frame i entries slots)) memory c.memory i c.results ops.left
    pub phases : KeepsPhases memory c.memory
    pub none : (o : ObjectId) → is_dead c.memory o ≡ true → HoldsNone (one_object o) c
    pub below : KeepLoans memory c.memory rest

  abbrev pub AreItemsGuarded : Type 0
  AreItemsGuarded = (memory : Memory) (rest : List (Task Frame)) (frame : Frame) (f : Function) (i : Item) (ops : Operands) (c : Change)
      (slots : List Place) (entries : List Entry) → IsGuardedRun m loans memory (Runs frame ∷ rest) → GoesOnGuarded memory rest frame f i ops c slots entries
      → IsGuardedRun m loans c.memory (dropping c.dropped (Runs (frame_behind frame i entries slots) ∷ rest))

  -- ---- returns

  -- a frame goes on with what its callee returned
  pub record TakesReturned (memory : Memory) (frame : Frame) (f : Function) (i : Item) (x : Datum) (slots : List Place) (entries : List Entry) : Type 0 where
    pub is : slice_get m.functions frame.function.0 ≡ Some f
    pub put : results_put (facts_in (declarations_of m) f) (item_defined f i) (x ∷ []) frame.entries ≡ Ok entries
    pub arguments : (a : ValueId) → IsArgument f a → makes f a i ≡ false
    pub right : ArePutRight (declarations_of m) f (loans f frame) (loans f (frame_behind frame i entries slots)) memory memory i (x ∷ []) frame.entries
    pub none : (o : ObjectId) → is_dead memory o ≡ true → in_datum (one_object o) x ≡ 0

  abbrev pub AreReturnsGuarded : Type 0
  AreReturnsGuarded = (memory : Memory) (rest : List (Task Frame)) (callee frame : Frame) (f : Function) (i : Item) (x : Datum) (slots : List Place)
      (entries : List Entry)
      → IsGuardedRun m loans memory (Runs callee ∷ Runs frame ∷ rest) → TakesReturned memory frame f i x slots entries
      → IsGuardedRun m loans memory (Runs (frame_behind frame i entries slots) ∷ rest)

  -- a deinitialiser returns
  abbrev pub AreDeinitReturnsGuarded : Type 0
  AreDeinitReturnsGuarded = (memory : Memory) (rest : List (Task Frame)) (callee : Frame) (deinits : List FuncId) (o : ObjectId)
      → IsGuardedRun m loans memory (Runs callee ∷ Finishes deinits o ∷ rest) → IsGuardedRun m loans memory (Finishes deinits o ∷ rest)

  -- ---- calls

  -- an argument that is lent is one of the entry's, and its own base; what it names is kept below
  pub record AreArgumentsGuarded (callee : Function) (args : List Datum) (Keeps : ObjectId → Type 0) : Type 0 where
    pub own : (n : ℕ) (v : ValueId) (x : Datum) (o : ObjectId) → slice_get (item_defined callee item.Entry) n ≡ Some v → slice_get args n ≡ Some x
        → made_entry (kind_at (declarations_of m) callee v) x ≡ Ok (Lent x) → IsNamed o (references_in x)
        → IsArgument callee v × IsBaseOf (declarations_of m) callee v v × Keeps o

  -- the frame that waits for a callee
  abbrev pub frame_waiting : Frame → Operands → List LentPlace → Frame
  frame_waiting frame ops lent = record frame { entries = ops.left; lent = lent }

  pub record CallsGuarded (memory later : Memory) (rest : List (Task Frame)) (frame : Frame) (f : Function) (i : Item) (ops : Operands) (lent : List LentPlace)
      (g : FuncId) (callee : Function) (args : List Datum) (entries : List Entry) : Type 0 where
    pub is : slice_get m.functions frame.function.0 ≡ Some f
    pub ops_are : operands_of (facts_in (declarations_of m) f) memory frame.entries (item_taken f i) ≡ Ok ops
    pub borrowed : KeepsBorrowed f frame.entries ops.left
    pub lending : (s : ValueId) (x : Datum) (k : ℕ) (y : Value) → is_borrow f s ≡ true → entry_at ops.left s ≡ Lent x → loans f frame s k ≡ true
        → KeepsAt memory k y → (loans f (frame_waiting frame ops lent) s k ≡ true) × KeepsAt later k y
    pub below : KeepLoans memory later rest
    pub phases : KeepsPhases memory later
    pub less : (o : ObjectId) → in_memory (one_object o) storage.Strong later ≤ in_memory (one_object o) storage.Strong memory
    pub callee_is : slice_get m.functions g.0 ≡ Some callee
    pub put : results_put (facts_in (declarations_of m) callee) (item_defined callee item.Entry) args (no_entries (value_count callee)) ≡ Ok entries
    pub none : (o : ObjectId) → is_dead memory o ≡ true
        → HoldsNone (one_object o) (record { results = args; dropped = []; retained = []; memory = later; slots = SameSlots })
    pub arguments : AreArgumentsGuarded callee args (IsGuardedIn m loans later (frame_waiting frame ops lent))

  abbrev pub AreCallsGuarded : Type 0
  AreCallsGuarded = (memory later : Memory) (rest : List (Task Frame)) (frame : Frame) (f : Function) (i : Item) (ops : Operands) (lent : List LentPlace)
      (g : FuncId) (callee : Function) (args : List Datum) (entries : List Entry) → IsGuardedRun m loans memory (Runs frame ∷ rest)
      → CallsGuarded memory later rest frame f i ops lent g callee args entries
      → IsGuardedRun m loans later (Runs (new_frame g entries) ∷ Runs (frame_waiting frame ops lent) ∷ rest)

  -- a deinitialiser is called with its object lent
  abbrev pub AreDeinitCallsGuarded : Type 0
  AreDeinitCallsGuarded = (memory : Memory) (rest : List (Task Frame)) (g h : FuncId) (gs : List FuncId) (o : ObjectId) (callee : Function) (args : List Datum)
      (entries : List Entry) → IsGuardedRun m loans memory (Finishes (h ∷ gs) o ∷ rest) → slice_get m.functions g.0 ≡ Some callee
      → results_put (facts_in (declarations_of m) callee) (item_defined callee item.Entry) args (no_entries (value_count callee)) ≡ Ok entries
      → ((p : ObjectId) → is_dead memory p ≡ true → HoldsNone (one_object p)
      (record { results = args; dropped = []; retained = []; memory = memory; slots = SameSlots }))
      → AreArgumentsGuarded callee args (λ p. p ≡ o)
      → IsGuardedRun m loans memory (Runs (new_frame g entries) ∷ Finishes gs o ∷ rest)

  -- ---- drops and finishes

  -- a reference is dropped; and no reference is left
  abbrev pub AreDropsGuarded : Type 0
  AreDropsGuarded = (memory : Memory) (rest : List (Task Frame))
      → ((o : ObjectId) (os : List ObjectId) → IsGuardedRun m loans memory (Drops (o ∷ os) ∷ rest) → IsGuardedRun m loans memory (Drops os ∷ rest))
      × (IsGuardedRun m loans memory (Drops [] ∷ rest) → IsGuardedRun m loans memory rest)

  -- an object starts to deinitialise
  abbrev pub AreDeinitsGuarded : Type 0
  AreDeinitsGuarded = (memory : Memory) (os : List ObjectId) (rest : List (Task Frame)) (o : ObjectId) (deinits : List FuncId) → is_live memory o ≡ true
      → IsGuardedRun m loans memory (Drops os ∷ rest) → IsGuardedRun m loans (in_phase Deiniting memory o) (Finishes deinits o ∷ Drops os ∷ rest)

  -- an object without strong holders dies
  abbrev pub AreDeathsGuarded : Type 0
  AreDeathsGuarded = (memory : Memory) (rest : List (Task Frame)) (o : ObjectId) → IsGuardedRun m loans memory (Finishes [] o ∷ rest)
      → holders_in memory rest o ≡ 0
      → IsGuardedRun m loans (with_object memory o (ended (object_at memory o))) (dropping (field_references (object_at memory o)) rest)
