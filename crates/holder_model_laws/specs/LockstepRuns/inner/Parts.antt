-- The parts of a proof that two modules run in lockstep: what the frames of each function do, what the first run holds more, and where it goes
-- alone. Nothing here speaks of more than one frame at a time, but for what is held.
use Rattle.std.specs.Prelude.{◌≡◌, ℕ, List, [], ◌∷◌, false, Some, slice_get}
use Rattle.std.specs.declared.result.Result.{Result}
use Rattle.numbered_form.specs.Names.{Name}
use Rattle.sil_ast.specs.declared.function.Function.{Function}
use Rattle.sil_ast.specs.declared.module.Module.{Module}
use Rattle.sil_ast.specs.declared.place.FuncId.{FuncId}
use Rattle.sil_ast.specs.declared.place.ObjectId.{ObjectId}
use Rattle.sil_cfg.specs.declared.item.Item.{Item}
use Rattle.sil_cfg.specs.declared.item.Item.TheVariants as item
use Rattle.sil_cfg_items.specs.Items.{item_defined}
use Rattle.sil_types_declarations.specs.TypeDefinitions.Declarations.{declarations_of}
use Rattle.holder_model.specs.holder_model_values.RunValues.Memory.{is_live}
use Rattle.holder_model.specs.holder_model_values.RunValues.Places.{Place}
use Rattle.holder_model.specs.Calling.{value_count}
use Rattle.holder_model.specs.Data.{Datum}
use Rattle.holder_model.specs.Dropping.{deinits_of}
use Rattle.holder_model.specs.Faults.{HolderFault}
use Rattle.holder_model.specs.Frames.{Entry, Frame, LentPlace, has_any, no_entries, results_put}
use Rattle.holder_model.specs.HolderStates.{HolderState, strong_holders}
use Rattle.holder_model.specs.ModuleFacts.{ModuleFacts, facts_told}
use Rattle.holder_model.specs.Standing.{stands_at}
use Rattle.holder_model.specs.States.{Drops, Finishes, Runs, Task}
use Rattle.holder_model.specs.Steps as steps
use Rattle.holder_model_laws.specs.LockstepRuns.inner.Lockstep.{AreInStep, AreLevel, ArePutAlike, AreStepsAlike, AreTasksLike, Excess, frame_at}

-- the entries behind some results
abbrev pub puts : ModuleFacts → FuncId → Function → Item → List Datum → List Entry → Result (List Entry) HolderFault
puts told g f i xs entries = results_put (facts_told told g) (item_defined f i) xs entries

-- the entries of a new frame of the function
abbrev pub entered : ModuleFacts → FuncId → Function → List Datum → Result (List Entry) HolderFault
entered told g f args = puts told g f item.Entry args (no_entries (value_count f))

-- the call at which a frame stands
abbrev pub call_at : Function → List Item → Item
call_at f trail = item.Inst (stands_at f trail)

abbrev pub with_tasks : HolderState → List (Task Frame) → HolderState
with_tasks s tasks = record s { tasks = tasks }

-- a function and what stands for it in the second module
pub record StandsFor (f f' : Function) : Type 0 where
  pub bodied : has_any f'.blocks ≡ has_any f.blocks
  pub signature : f'.signature ≡ f.signature

-- the two modules have the same functions but for what these do, and deinitialise alike
pub record HasFunctions (m m' : Module) : Type 0 where
  pub function : (g : FuncId) (f : Function) → slice_get m.functions g.0 ≡ Some f → (f' : Function) × (slice_get m'.functions g.0 ≡ Some f')
  pub back : (g : FuncId) (f' : Function) → slice_get m'.functions g.0 ≡ Some f' → (f : Function) × (slice_get m.functions g.0 ≡ Some f)
  pub stands : (g : FuncId) (f f' : Function) → slice_get m.functions g.0 ≡ Some f → slice_get m'.functions g.0 ≡ Some f' → StandsFor f f'
  pub deinits : (class : Name) → deinits_of (declarations_of m') class ≡ deinits_of (declarations_of m) class

module _ (m m' : Module) (told told' : ModuleFacts) (bound : ℕ) where
  module _ (First Second : HolderState → Type 0) (Like : FuncId → List Item → List Entry → List Item → List Entry → Type 0)
      (Alone : FuncId → List Item → Type 0) where
    -- two states, and the frames of a function that go on in them
    pub record AreFramesOn (h r : HolderState) (g : FuncId) (slots : List Place) (lent : List LentPlace) (trail trail' : List Item)
        (entries entries' : List Entry)
        (rest rest' : List (Task Frame)) : Type 0 where
      pub first : First h
      pub second : Second r
      pub level : AreLevel h r
      pub h_tasks : h.tasks ≡ Runs (frame_at g slots lent trail entries) ∷ rest
      pub r_tasks : r.tasks ≡ Runs (frame_at g slots lent trail' entries') ∷ rest'
      pub like : Like g trail entries trail' entries'
      pub below : AreTasksLike Like rest rest'
      pub at_rest : ¬ Alone g trail

    -- what the frames of one function do. f is the function in the first module, f' that in the second
    pub record FramesAgree (g : FuncId) (f f' : Function) : Type 0 where
      -- the frame of an entry function, and a new frame
      pub begin : Like g (item.Entry ∷ []) (no_entries (value_count f)) (item.Entry ∷ []) (no_entries (value_count f'))
      pub enter : (args : List Datum) → ArePutAlike Like g (item.Entry ∷ []) (item.Entry ∷ []) (entered told g f args) (entered told' g f' args)
      -- a frame's step
      pub step : (h r : HolderState) (slots : List Place) (lent : List LentPlace) (trail trail' : List Item) (entries entries' : List Entry)
          (rest rest' : List (Task Frame)) → AreFramesOn h r g slots lent trail trail' entries entries' rest rest'
          → AreStepsAlike First Second (AreInStep Like Alone m told bound) (steps.runs m told bound h rest (frame_at g slots lent trail entries))
          (steps.runs m' told' bound r rest' (frame_at g slots lent trail' entries'))
      -- a frame takes what its callee returned
      pub resume : (h : HolderState) (callee : Frame) (slots : List Place) (lent : List LentPlace) (trail trail' : List Item) (entries entries' : List Entry)
          (rest : List (Task Frame)) (x : Datum) → First h → h.tasks ≡ Runs callee ∷ Runs (frame_at g slots lent trail entries) ∷ rest
          → Like g trail entries trail' entries'
          → ArePutAlike Like g (call_at f trail ∷ trail) (call_at f' trail' ∷ trail') (puts told g f (call_at f trail) (x ∷ []) entries)
          (puts told' g f' (call_at f' trail') (x ∷ []) entries')

    -- two states that are together, at the same task, which isn't a frame
    pub record AreAt (h r : HolderState) (task : Task Frame) (rest rest' : List (Task Frame)) : Type 0 where
      pub first : First h
      pub second : Second r
      pub level : AreLevel h r
      pub h_tasks : h.tasks ≡ task ∷ rest
      pub r_tasks : r.tasks ≡ task ∷ rest'
      pub below : AreTasksLike Like rest rest'

    -- what the first run holds more where a reference is dropped, and where an object dies
    abbrev pub AreDropsCovered : Type 0
    AreDropsCovered = (h r : HolderState) (o : ObjectId) (os : List ObjectId) (rest rest' : List (Task Frame)) → AreAt h r (Drops (o ∷ os)) rest rest'
        → Excess (strong_holders (with_tasks h (Drops os ∷ rest)) o) (strong_holders (with_tasks r (Drops os ∷ rest')) o) (is_live r.memory o ≡ false)

    abbrev pub AreFinishesCovered : Type 0
    AreFinishesCovered = (h r : HolderState) (o : ObjectId) (rest rest' : List (Task Frame)) → AreAt h r (Finishes [] o) rest rest'
        → Excess (strong_holders (with_tasks h rest) o) (strong_holders (with_tasks r rest') o) ⊥

    -- where tasks are alike, the first run goes alone until both are at rest
    abbrev pub ComeTogether : Type 0
    ComeTogether = (h r : HolderState) → First h → Second r → AreTasksLike Like h.tasks r.tasks → AreLevel h r → AreInStep Like Alone m told bound h r

    pub record Parts : Type 0 where
      pub functions : HasFunctions m m'
      pub frames : (g : FuncId) (f f' : Function) → slice_get m.functions g.0 ≡ Some f → slice_get m'.functions g.0 ≡ Some f' → FramesAgree g f f'
      pub dropped : AreDropsCovered
      pub finished : AreFinishesCovered
      pub alone : ComeTogether
