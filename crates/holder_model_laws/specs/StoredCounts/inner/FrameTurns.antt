-- Stored numbers where frames are entered and left, and where an item hands on what it took: what begins holds just what ended.
use Rattle.std.specs.Prelude.{◌≡◌, ℕ, List, [], ◌∷◌, false, length, Ok}
use Rattle.numbered_form.specs.Lists.{Each}
use Rattle.sil_ast.specs.declared.decl.Storage.{Storage}
use Rattle.sil_ast.specs.declared.function.Function.{Function}
use Rattle.sil_ast.specs.declared.module.Module.{Module}
use Rattle.sil_ast.specs.declared.place.FuncId.{FuncId}
use Rattle.sil_ast.specs.declared.place.ObjectId.{ObjectId}
use Rattle.sil_cfg.specs.declared.item.Item.{Item}
use Rattle.sil_cfg.specs.declared.item.Item.TheVariants as item
use Rattle.sil_cfg_items.specs.Items.{item_defined, item_taken}
use Rattle.holder_model.specs.holder_model_values.RunValues.Places.{Place}
use Rattle.holder_model.specs.holder_model_values.RunValues.Values.{Value, references_of}
use Rattle.holder_model.specs.Calling.{handed_over, holds_something, value_count}
use Rattle.holder_model.specs.Data.{Datum}
use Rattle.holder_model.specs.Effects.{unchanged}
use Rattle.holder_model.specs.Frames.{Entry, Frame, LentPlace, Operands, no_entries, results_put}
use Rattle.holder_model.specs.HolderStates.{HolderState}
use Rattle.holder_model.specs.Holders.{in_memory, of_references, one_object}
use Rattle.holder_model.specs.ModuleFacts.{ModuleFacts, facts_told}
use Rattle.holder_model.specs.Outcomes.{Numbers, returned_holders}
use Rattle.holder_model.specs.StepParts.{new_frame}
use Rattle.holder_model.specs.States.{Runs, Task}
use Rattle.holder_model.specs.LoweredRun.Stored.{numbers_of}
use Rattle.holder_model_laws.specs.HolderLaws.inner.Steps.Ways.{left_with, moved, operands_in, turned}
use Rattle.holder_model_laws.specs.HolderLaws.inner.Counts.Taking.{IsBelow, references_begun, references_ended}
use Rattle.holder_model_laws.specs.StoredCounts.inner.Numbers.{AreCounts}

-- ---- what is the same

-- memory with places handed over names what it did
pub record HandsTheSame (s : HolderState) (lent : List LentPlace) : Type 0 where
  pub size : length (handed_over s.memory lent).objects ≡ length s.memory.objects
  pub named : (how : Storage) (o : ObjectId) → in_memory (one_object o) how (handed_over s.memory lent) ≡ in_memory (one_object o) how s.memory

module _ (m : Module) (told : ModuleFacts) (bound : ℕ) where
  -- what the operands held that end
  abbrev pub ended_in : Frame → Function → Item → ObjectId → ℕ
  ended_in frame f i o = of_references (one_object o) (references_ended (facts_told told frame.function) frame.entries (item_taken f i))

  -- what the results hold
  abbrev pub begun_in : FuncId → Function → Item → List Datum → ObjectId → ℕ
  begun_in g f i xs o = of_references (one_object o) (references_begun (facts_told told g) (item_defined f i) xs)

  -- the frame that goes on reads the operands of an item
  pub record Reads (s : HolderState) (rest : List (Task Frame)) (frame : Frame) (f : Function) (i : Item) (ops : Operands) : Type 0 where
    pub at : s.tasks ≡ Runs frame ∷ rest
    pub taken : operands_in m told bound s frame f i ≡ Ok ops

  -- ---- edges, and calls of functions without bodies

  pub record HandsOver (s : HolderState) (rest : List (Task Frame)) (frame : Frame) (f : Function) (i : Item) (ops : Operands) (xs : List Datum)
      (entries : List Entry) : Type 0 where
    pub reads : Reads s rest frame f i ops
    pub put : results_put (facts_told told frame.function) (item_defined f i) xs ops.left ≡ Ok entries
    pub each : Each (IsBelow (length ops.left)) (item_defined f i)
    pub same : (o : ObjectId) → begun_in frame.function f i xs o ≡ ended_in frame f i o

  -- ---- calls

  pub record Calls (s : HolderState) (rest : List (Task Frame)) (frame : Frame) (f : Function) (i : Item) (ops : Operands) (lent : List LentPlace) (g : FuncId)
      (callee : Function) (args : List Datum) (entries : List Entry) : Type 0 where
    pub reads : Reads s rest frame f i ops
    pub put : results_put (facts_told told g) (item_defined callee item.Entry) args (no_entries (value_count callee)) ≡ Ok entries
    pub each : Each (IsBelow (value_count callee)) (item_defined callee item.Entry)
    pub same : (o : ObjectId) → begun_in g callee item.Entry args o ≡ ended_in frame f i o
    pub hands : HandsTheSame s lent

  abbrev pub AreCallsStored : Type 0
  AreCallsStored = (s : HolderState) (rest : List (Task Frame)) (frame : Frame) (f : Function) (i : Item) (ops : Operands) (lent : List LentPlace) (g : FuncId)
      (callee : Function) (args : List Datum) (entries : List Entry) (stored : List Numbers) → Calls s rest frame f i ops lent g callee args entries
      → AreCounts s stored
      → AreCounts (record (turned (record s { memory = handed_over s.memory lent })) {
        tasks = Runs (new_frame g entries) ∷ Runs (record (left_with m told bound frame ops) { lent = lent }) ∷ rest;
      }) stored

  -- a deinitialiser is called: its object is lent
  pub record CallsDeinit (g : FuncId) (callee : Function) (args : List Datum) (entries : List Entry) : Type 0 where
    pub put : results_put (facts_told told g) (item_defined callee item.Entry) args (no_entries (value_count callee)) ≡ Ok entries
    pub each : Each (IsBelow (value_count callee)) (item_defined callee item.Entry)
    pub none : (o : ObjectId) → begun_in g callee item.Entry args o ≡ 0

  -- ---- returns

  -- behind the operands of its `return` the frame holds nothing
  pub record LeavesNothing (s : HolderState) (rest : List (Task Frame)) (frame : Frame) (f : Function) (i : Item) (ops : Operands) : Type 0 where
    pub reads : Reads s rest frame f i ops
    pub none : holds_something ops.left ≡ false

  -- to the frame that waits
  pub record Resumes (s : HolderState) (rest : List (Task Frame)) (callee : Frame) (body : Function) (i : Item) (ops : Operands) (x : Datum) (frame : Frame)
      (f : Function) (call : Item) (entries : List Entry) : Type 0 where
    pub leaves : LeavesNothing s (Runs frame ∷ rest) callee body i ops
    pub put : results_put (facts_told told frame.function) (item_defined f call) (x ∷ []) frame.entries ≡ Ok entries
    pub each : Each (IsBelow (length frame.entries)) (item_defined f call)
    pub same : (o : ObjectId) → begun_in frame.function f call (x ∷ []) o ≡ ended_in callee body i o

  abbrev pub AreReturnsStored : Type 0
  AreReturnsStored = (s : HolderState) (rest : List (Task Frame)) (callee : Frame) (body : Function) (i : Item) (ops : Operands) (x : Datum)
      (frame : Frame) (f : Function)
      (call : Item) (slots : List Place) (entries : List Entry) (stored : List Numbers) → Resumes s rest callee body i ops x frame f call entries
      → AreCounts s stored
      → AreCounts (moved m told bound s rest frame call (record (unchanged s.memory) { results = x ∷ [] }) slots entries) stored

  -- out of the run: what is told of its objects is stored
  abbrev pub AreLeftStored : Type 0
  AreLeftStored = (s : HolderState) (callee : Frame) (body : Function) (i : Item) (ops : Operands) (x : Value) (stored : List Numbers)
      → LeavesNothing s [] callee body i ops → ((o : ObjectId) → of_references (one_object o) (references_of x) ≡ ended_in callee body i o) → AreCounts s stored
      → (o : ObjectId) → numbers_of stored o ≡ returned_holders (record s { tasks = [] }) (references_of x) o
