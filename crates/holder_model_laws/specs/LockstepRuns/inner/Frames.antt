-- What the frames of one function do in two modules, item by item, with nothing said of the tasks below but of what the first run alone drops.
use Rattle.std.specs.Prelude.{◌≡◌, ◌≤◌, ◌<◌, ◌+◌, ◌⊎◌, ℕ, List, [], ◌∷◌, false, drop, length, Ok, Some, None, slice_get}
use Rattle.std.specs.declared.result.Result.{Result}
use Rattle.instruction_table.specs.Forms.{ending_of}
use Rattle.instruction_table.specs.declared.entries.Ending.TheVariants as ending
use Rattle.sil_ast.specs.declared.decl.Storage.TheVariants as storage
use Rattle.sil_ast.specs.declared.function.Function.{Function}
use Rattle.sil_ast.specs.declared.inst.Inst as inst
use Rattle.sil_ast.specs.declared.module.Module.{Module}
use Rattle.sil_ast.specs.declared.operands.Operand.{Operand}
use Rattle.sil_ast.specs.declared.place.EdgeId.{EdgeId}
use Rattle.sil_ast.specs.declared.place.FuncId.{FuncId}
use Rattle.sil_ast.specs.declared.place.ObjectId.{ObjectId}
use Rattle.sil_cfg.specs.declared.item.Item.{Item}
use Rattle.sil_cfg.specs.declared.item.Item.TheVariants as item
use Rattle.sil_cfg_items.specs.Items.{item_taken}
use Rattle.sil_cfg_items.specs.Parts.{inst_at, terminator_of}
use Rattle.sil_types_declarations.specs.TypeDefinitions.Declarations.{declarations_of}
use Rattle.holder_model.specs.holder_model_values.RunValues.Memory.{Memory, is_live}
use Rattle.holder_model.specs.holder_model_values.RunValues.Places.{Place}
use Rattle.holder_model.specs.holder_model_values.RunValues.Values as value
use Rattle.holder_model.specs.Calling.{holds_something, lent_places, places_given, value_count}
use Rattle.holder_model.specs.Data.{Datum, ValueOf}
use Rattle.holder_model.specs.Edges.{carried_along, edge_of}
use Rattle.holder_model.specs.Effects as effects
use Rattle.holder_model.specs.Effects.{Change, Effect}
use Rattle.holder_model.specs.Faults.{HolderFault}
use Rattle.holder_model.specs.Frames.{Entry, Frame, LentPlace, Operands, datum_in, entry_at, no_entries, operands_of}
use Rattle.holder_model.specs.Holders.{in_memory, of_references, one_object}
use Rattle.holder_model.specs.HolderStates.{HolderState}
use Rattle.holder_model.specs.MemoryEffects.{effect}
use Rattle.holder_model.specs.ModuleFacts.{ModuleFacts, facts_told}
use Rattle.holder_model.specs.ModuleShapes.{shapes_in}
use Rattle.holder_model.specs.Standing.{stands_at}
use Rattle.holder_model.specs.States.{Runs, Task}
use Rattle.holder_model_laws.specs.HolderLaws.inner.Counts.Moving.{in_tasks}
use Rattle.holder_model_laws.specs.LockstepRuns.inner.Lockstep.{ArePutAlike, frame_at}
use Rattle.holder_model_laws.specs.LockstepRuns.inner.Parts.{AreDropsCovered, AreFinishesCovered, AreFramesOn, ComeTogether, HasFunctions, call_at, entered}
use Rattle.holder_model_laws.specs.LockstepRuns.inner.Parts.{puts}

-- the operands of an item in a frame
abbrev pub takes : ModuleFacts → FuncId → Function → Item → Memory → List Entry → Result Operands HolderFault
takes told g f i memory entries = operands_of (facts_told told g) memory entries (item_taken f i)

-- what an instruction of the function does
abbrev pub does : Module → ModuleFacts → FuncId → Memory → inst.Inst → List Datum → Effect HolderFault
does m told g memory i xs = effect (declarations_of m) told.shapes (shapes_in told.shapes g) memory i xs

-- the places that a call lends
abbrev pub lends : Function → Item → List Datum → List LentPlace
lends f i args = lent_places (drop 1 (item_taken f i)) args

-- what a function without a body returns
abbrev pub no_value : List Datum
no_value = ValueOf (value.Group value.NoValue) ∷ []

-- of each of these references the object has another holder, or isn't live
abbrev pub AreSpared : Memory → List (Task Frame) → List ObjectId → Type 0
AreSpared memory tasks os = (o : ObjectId) → 0 < of_references (one_object o) os
    → (0 < in_tasks (one_object o) tasks + in_memory (one_object o) storage.Strong memory) ⊎ (is_live memory o ≡ false)

module _ (m m' : Module) (told told' : ModuleFacts) (bound : ℕ) (First Second : HolderState → Type 0)
    (Like : FuncId → List Item → List Entry → List Item → List Entry → Type 0) (Alone : FuncId → List Item → Type 0) (g : FuncId) (f f' : Function) where
  -- ---- an item of frames with these trails, by what the two have left of their operands
  module _ (trail trail' : List Item) (i i' : Item) (left left' : List Entry) (rest : List (Task Frame)) where
    -- what is dropped in both; or what the first run drops alone, because other holders are left
    pub data AreDropsAlike (c c' : Change) : Type 0 where
      both : c'.dropped ≡ c.dropped → AreDropsAlike c c'
      alone : c'.dropped ≡ []
          → ((slots : List Place) (entries : List Entry) → puts told g f i c.results left ≡ Ok entries
          → AreSpared c.memory (Runs (frame_at g slots [] (i ∷ trail) entries) ∷ rest) c.dropped)
          → AreDropsAlike c c'

    pub record AreChangesAlike (c c' : Change) : Type 0 where
      pub memory : c'.memory ≡ c.memory
      pub slots : c'.slots ≡ c.slots
      pub retained : length c'.retained ≤ length c.retained
      pub dropped : AreDropsAlike c c'
      pub put : ArePutAlike Like g (i ∷ trail) (i' ∷ trail') (puts told g f i c.results left) (puts told' g f' i' c'.results left')

    pub record AreCallsAlike (k k' : FuncId) (args args' : List Datum) : Type 0 where
      pub callee : k' ≡ k
      pub given : args' ≡ args
      pub lent : lends f' i' args ≡ lends f i args
      -- the frame waits, or goes on behind a function without a body
      pub waits : Like g trail left trail' left'
      pub out : ArePutAlike Like g (i ∷ trail) (i' ∷ trail') (puts told g f i no_value left) (puts told' g f' i' no_value left')

    -- a fault of the first run needs nothing
    abbrev pub AreEffectsAlike : Effect HolderFault → Effect HolderFault → Type 0
    AreEffectsAlike (effects.Makes c) (effects.Makes c') = AreChangesAlike c c'
    AreEffectsAlike (effects.Makes c) (effects.Calls k' args') = ⊥
    AreEffectsAlike (effects.Makes c) (effects.Traps t') = ⊥
    AreEffectsAlike (effects.Makes c) (effects.Faults x') = ⊥
    AreEffectsAlike (effects.Makes c) effects.Unfit = ⊥
    AreEffectsAlike (effects.Calls k args) (effects.Makes c') = ⊥
    AreEffectsAlike (effects.Calls k args) (effects.Calls k' args') = AreCallsAlike k k' args args'
    AreEffectsAlike (effects.Calls k args) (effects.Traps t') = ⊥
    AreEffectsAlike (effects.Calls k args) (effects.Faults x') = ⊥
    AreEffectsAlike (effects.Calls k args) effects.Unfit = ⊥
    AreEffectsAlike (effects.Traps t) (effects.Makes c') = ⊥
    AreEffectsAlike (effects.Traps t) (effects.Calls k' args') = ⊥
    AreEffectsAlike (effects.Traps t) (effects.Traps t') = t' ≡ t
    AreEffectsAlike (effects.Traps t) (effects.Faults x') = ⊥
    AreEffectsAlike (effects.Traps t) effects.Unfit = ⊥
    AreEffectsAlike (effects.Faults x) other = Unit {0}
    AreEffectsAlike effects.Unfit other = Unit {0}

  -- ---- two frames that go on in the states h and r
  module _ (h r : HolderState) (trail trail' : List Item) (entries entries' : List Entry) (rest : List (Task Frame)) where
    abbrev pub inst_here : Item
    inst_here = item.Inst (stands_at f trail)

    abbrev pub inst_there : Item
    inst_there = item.Inst (stands_at f' trail')

    -- the instruction i in the first module, and another one in the second
    pub record AreInstsAlike (i : inst.Inst) : Type 0 where
      pub other : inst.Inst
      pub stands : inst_at f' (stands_at f' trail') ≡ Some other
      pub taken : (ops : Operands) → takes told g f inst_here h.memory entries ≡ Ok ops
          → (ops' : Operands) × (takes told' g f' inst_there r.memory entries' ≡ Ok ops')
          × AreEffectsAlike trail trail' inst_here inst_there ops.left ops'.left rest (does m told g h.memory i ops.given)
          (does m' told' g r.memory other ops'.given)

    -- an edge of the block
    pub record AreCarriedAlike (e e' : EdgeId) (ops : Operands) (carried : List Datum) : Type 0 where
      pub other : Operands
      pub taken : takes told' g f' (item.Edge e') r.memory entries' ≡ Ok other
      pub carries : carried_along f' e' other.given ≡ Some carried
      pub put : ArePutAlike Like g (item.Edge e ∷ trail) (item.Edge e' ∷ trail') (puts told g f (item.Edge e) carried ops.left)
          (puts told' g f' (item.Edge e') carried other.left)

    abbrev pub AreEdgesAlike : EdgeId → EdgeId → Type 0
    AreEdgesAlike e e' = (ops : Operands) (carried : List Datum) → takes told g f (item.Edge e) h.memory entries ≡ Ok ops
        → carried_along f e ops.given ≡ Some carried → AreCarriedAlike e e' ops carried

    -- a return
    pub record AreReturnsAlike (ops : Operands) : Type 0 where
      pub other : Operands
      pub taken : takes told' g f' (item.Exit (stands_at f' trail')) r.memory entries' ≡ Ok other
      pub given : other.given ≡ ops.given
      pub held : holds_something ops.left ≡ false → holds_something other.left ≡ false
      pub places : places_given f' other.left ≡ places_given f ops.left

    -- the terminator, which is the same in both
    pub record AreEndsAlike (i : inst.Inst) : Type 0 where
      pub behind : inst_at f' (stands_at f' trail') ≡ None
      pub terminator : terminator_of f' (stands_at f' trail').block.0 ≡ Some i
      -- what it chooses an edge by
      pub chosen : (o : Operand) (x : Datum) → slice_get i.operands 0 ≡ Some o → datum_in (entry_at entries o.value) ≡ Some x
          → datum_in (entry_at entries' o.value) ≡ Some x
      pub edges : ¬ (ending_of i.op ≡ ending.Return) → (k : ℕ) → AreEdgesAlike (edge_of (stands_at f trail) k) (edge_of (stands_at f' trail') k)
      pub returns : ending_of i.op ≡ ending.Return → (ops : Operands) → takes told g f (item.Exit (stands_at f trail)) h.memory entries ≡ Ok ops
          → AreReturnsAlike ops

  -- what the frames of the function do in the two modules
  pub record DoAlike : Type 0 where
    -- the shapes of its values
    pub shapes : shapes_in told'.shapes g ≡ shapes_in told.shapes g
    -- the frame of an entry function, and a new frame
    pub begin : Like g (item.Entry ∷ []) (no_entries (value_count f)) (item.Entry ∷ []) (no_entries (value_count f'))
    pub enter : (args : List Datum) → ArePutAlike Like g (item.Entry ∷ []) (item.Entry ∷ []) (entered told g f args) (entered told' g f' args)
    -- an instruction, and a terminator
    pub insts : (h r : HolderState) (slots : List Place) (lent : List LentPlace) (trail trail' : List Item) (entries entries' : List Entry)
        (rest rest' : List (Task Frame)) → AreFramesOn m m' told told' bound First Second Like Alone h r g slots lent trail trail' entries entries' rest rest'
        → (i : inst.Inst) → inst_at f (stands_at f trail) ≡ Some i → AreInstsAlike h r trail trail' entries entries' rest i
    pub ends : (h r : HolderState) (slots : List Place) (lent : List LentPlace) (trail trail' : List Item) (entries entries' : List Entry)
        (rest rest' : List (Task Frame)) → AreFramesOn m m' told told' bound First Second Like Alone h r g slots lent trail trail' entries entries' rest rest'
        → (i : inst.Inst) → inst_at f (stands_at f trail) ≡ None → terminator_of f (stands_at f trail).block.0 ≡ Some i
        → AreEndsAlike h r trail trail' entries entries' rest i
    -- a frame takes what its callee returned
    pub resume : (h : HolderState) (callee : Frame) (slots : List Place) (lent : List LentPlace) (trail trail' : List Item) (entries entries' : List Entry)
        (rest : List (Task Frame)) (x : Datum) → First h → h.tasks ≡ Runs callee ∷ Runs (frame_at g slots lent trail entries) ∷ rest
        → Like g trail entries trail' entries'
        → ArePutAlike Like g (call_at f trail ∷ trail) (call_at f' trail' ∷ trail') (puts told g f (call_at f trail) (x ∷ []) entries)
        (puts told' g f' (call_at f' trail') (x ∷ []) entries')

-- The parts, by what frames do.
pub record FrameParts (m m' : Module) (told told' : ModuleFacts) (bound : ℕ) (First Second : HolderState → Type 0)
    (Like : FuncId → List Item → List Entry → List Item → List Entry → Type 0) (Alone : FuncId → List Item → Type 0) : Type 0 where
  pub functions : HasFunctions m m'
  pub frames : (g : FuncId) (f f' : Function) → slice_get m.functions g.0 ≡ Some f → slice_get m'.functions g.0 ≡ Some f'
      → DoAlike m m' told told' bound First Second Like Alone g f f'
  pub dropped : AreDropsCovered m m' told told' bound First Second Like Alone
  pub finished : AreFinishesCovered m m' told told' bound First Second Like Alone
  pub alone : ComeTogether m m' told told' bound First Second Like Alone
