-- What the state holds behind each way of a step, by any weight.
use Rattle.std.specs.Prelude.{◌≡◌, ℕ, ◌+◌, List, [], ◌∷◌, true, false, length, map, sum, Ok}
use Rattle.sil_ast.specs.declared.decl.Storage.TheVariants as storage
use Rattle.sil_ast.specs.declared.function.Function.{Function}
use Rattle.sil_ast.specs.declared.module.Module.{Module}
use Rattle.sil_ast.specs.declared.place.FuncId.{FuncId}
use Rattle.sil_ast.specs.declared.place.ObjectId.{ObjectId}
use Rattle.sil_cfg.specs.declared.item.Item.{Item}
use Rattle.sil_cfg.specs.declared.item.Item.TheVariants as item
use Rattle.sil_cfg_items.specs.Items.{item_defined, item_taken}
use Rattle.numbered_form.specs.Lists.{Each}
use Rattle.holder_model.specs.holder_model_values.RunValues.Memory.{is_dead, is_live}
use Rattle.holder_model.specs.holder_model_values.RunValues.Places.{Place}
use Rattle.holder_model.specs.Calling.{value_count}
use Rattle.holder_model.specs.Data.{Datum}
use Rattle.holder_model.specs.Effects.{Change}
use Rattle.holder_model.specs.Frames.{Entry, Frame, Operands, no_entries, results_put}
use Rattle.holder_model.specs.Holders.{in_memory, of_references}
use Rattle.holder_model.specs.HolderStates.{HolderState, in_state, in_task}
use Rattle.holder_model.specs.ModuleFacts.{ModuleFacts, facts_told}
use Rattle.holder_model.specs.StepParts.{new_frame}
use Rattle.holder_model.specs.States.{Drops, Runs, Task, dropping}
use Rattle.holder_model_laws.specs.HolderLaws.inner.Steps.Ways.{deinitialising, finished, left_with, moved, operands_in, turned}
use Rattle.holder_model_laws.specs.HolderLaws.inner.Counts.Taking.{IsBelow, in_entries, references_begun, references_ended}

abbrev pub in_tasks : (ObjectId → ℕ) → List (Task Frame) → ℕ
in_tasks weight tasks = sum (map (in_task weight) tasks)

-- references that wait to be dropped are held
abbrev pub AreWaitingCounted : Type 0
AreWaitingCounted = (weight : ObjectId → ℕ) (os : List ObjectId) (tasks : List (Task Frame))
    → in_tasks weight (dropping os tasks) ≡ of_references weight os + in_tasks weight tasks

module _ (m : Module) (told : ModuleFacts) (bound : ℕ) where
  -- ---- items

  -- behind an item: what the frame had left, what the results bring, what is dropped, and what memory holds then
  abbrev pub AreMovesCounted : Type 0
  AreMovesCounted = (weight : ObjectId → ℕ) (s : HolderState) (rest : List (Task Frame)) (frame : Frame) (f : Function) (i : Item) (c : Change)
      (slots : List Place) (entries : List Entry)
      → results_put (facts_told told frame.function) (item_defined f i) c.results frame.entries ≡ Ok entries
      → Each (IsBelow (length frame.entries)) (item_defined f i)
      → in_state weight (moved m told bound s rest frame i c slots entries)
      ≡ (in_entries weight frame.entries + in_tasks weight rest)
      + (of_references weight (references_begun (facts_told told frame.function) (item_defined f i) c.results) + of_references weight c.dropped)
      + in_memory weight storage.Strong c.memory

  -- what an item brings, drops and leaves in memory is what it took, what it made anew, and what was in memory
  pub record IsBalanced (weight : ObjectId → ℕ) (s : HolderState) (frame : Frame) (f : Function) (i : Item) (c : Change) (made : List ObjectId) : Type 0 where
    pub balance :
        of_references weight (references_begun (facts_told told frame.function) (item_defined f i) c.results) + of_references weight c.dropped
        + in_memory weight storage.Strong c.memory
        ≡ of_references weight (references_ended (facts_told told frame.function) frame.entries (item_taken f i)) + of_references weight c.retained
        + of_references weight made + in_memory weight storage.Strong s.memory

  -- where that is so, the state holds just what was retained or made beside what it held
  abbrev pub AreItemsCounted : Type 0
  AreItemsCounted = (weight : ObjectId → ℕ) (s : HolderState) (rest : List (Task Frame)) (frame : Frame) (f : Function) (i : Item) (ops : Operands) (c : Change)
      (made : List ObjectId) (slots : List Place) (entries : List Entry)
      → s.tasks ≡ Runs frame ∷ rest → operands_in m told bound s frame f i ≡ Ok ops
      → results_put (facts_told told frame.function) (item_defined f i) c.results ops.left ≡ Ok entries
      → Each (IsBelow (length ops.left)) (item_defined f i)
      → IsBalanced weight s frame f i c made
      → in_state weight (moved m told bound s rest (left_with m told bound frame ops) i c slots entries)
      ≡ in_state weight s + (of_references weight c.retained + of_references weight made)

  -- ---- calls

  -- a function that is entered holds what its arguments bring
  abbrev pub AreEntriesCounted : Type 0
  AreEntriesCounted = (weight : ObjectId → ℕ) (s : HolderState) (rest : List (Task Frame)) (g : FuncId) (callee : Function) (args : List Datum)
      (entries : List Entry)
      → results_put (facts_told told g) (item_defined callee item.Entry) args (no_entries (value_count callee)) ≡ Ok entries
      → Each (IsBelow (value_count callee)) (item_defined callee item.Entry)
      → in_state weight (record (turned s) { tasks = Runs (new_frame g entries) ∷ rest })
      ≡ of_references weight (references_begun (facts_told told g) (item_defined callee item.Entry) args) + in_tasks weight rest
      + in_memory weight storage.Strong s.memory

  -- ---- drops and finishes

  -- a reference that was dropped isn't held any more
  abbrev pub AreDropsCounted : Type 0
  AreDropsCounted = (weight : ObjectId → ℕ) (s : HolderState) (o : ObjectId) (os : List ObjectId) (rest : List (Task Frame)) → s.tasks ≡ Drops (o ∷ os) ∷ rest
      → in_state weight (record s { tasks = Drops os ∷ rest; releases = s.releases + 1 }) + weight o ≡ in_state weight s

  -- the state holds as much when an object starts to deinitialise
  abbrev pub AreDeinitsCounted : Type 0
  AreDeinitsCounted = (weight : ObjectId → ℕ) (s : HolderState) (o : ObjectId) → is_live s.memory o ≡ true
      → in_state weight (deinitialising m told bound s o) ≡ in_state weight s

  -- and when it dies: what its fields held waits to be dropped
  abbrev pub AreFinishesCounted : Type 0
  AreFinishesCounted = (weight : ObjectId → ℕ) (s : HolderState) (o : ObjectId) → is_dead s.memory o ≡ false
      → in_state weight (finished m told bound s o) ≡ in_state weight s

-- so it is in each module, whatever is told of it
abbrev pub InEach : (Module → ModuleFacts → ℕ → Type 0) → Type 0
InEach Law = (m : Module) (told : ModuleFacts) (bound : ℕ) → Law m told bound
