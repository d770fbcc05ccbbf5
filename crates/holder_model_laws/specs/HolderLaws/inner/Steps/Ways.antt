-- The ways that a step of a run by holders can take, each with what it found: what a proof on runs goes by, case by case.
use Rattle.std.specs.Prelude.{◌≡◌, ℕ, suc, ℤ, ◌+◌, List, [], ◌∷◌, ◌++◌, true, false, drop, length, map, nat_lt, Option, Some, None, Ok, Err, slice_get}
use Rattle.std.specs.declared.result.Result.{Result}
use Rattle.instruction_table.specs.Forms.{ending_of}
use Rattle.instruction_table.specs.declared.entries.Ending.TheVariants as ending
use Rattle.sil_ast.specs.declared.function.Function.{Function}
use Rattle.sil_ast.specs.declared.inst.Inst.{Inst}
use Rattle.sil_ast.specs.declared.module.Module.{Module}
use Rattle.sil_ast.specs.declared.operands.Operand.{Operand}
use Rattle.sil_ast.specs.declared.place.EdgeId.{EdgeId}
use Rattle.sil_ast.specs.declared.place.FuncId.{FuncId}
use Rattle.sil_ast.specs.declared.place.ObjectId.{ObjectId}
use Rattle.sil_cfg.specs.declared.item.Item.{Item}
use Rattle.sil_cfg.specs.declared.item.Item.TheVariants as item
use Rattle.sil_cfg_items.specs.Items.{item_defined, item_taken}
use Rattle.sil_cfg_items.specs.Parts.{inst_at, terminator_of}
use Rattle.sil_types_declarations.specs.TypeDefinitions.Declarations.{declarations_of}
use Rattle.holder_model.specs.holder_model_values.declared.run_values.phase.Phase.TheVariants.{Deiniting}
use Rattle.holder_model.specs.holder_model_values.RunValues.Memory.{is_live, object_at, with_object}
use Rattle.holder_model.specs.holder_model_values.RunValues.Places.{Place}
use Rattle.holder_model.specs.holder_model_values.RunValues.Values as value
use Rattle.holder_model.specs.holder_model_values.RunValues.Values.{Value}
use Rattle.holder_model.specs.declared.event.Event.TheVariants as event
use Rattle.holder_model.specs.declared.limits.TheConstants.{FRAMES}
use Rattle.holder_model.specs.declared.trap.Trap.{Trap}
use Rattle.holder_model.specs.declared.trap.Trap.TheVariants as trap
use Rattle.holder_model.specs.Calling.{are_as_after, are_as_before, as_argument, handed_over, holds_something, lent_places, places_given, value_count}
use Rattle.holder_model.specs.Data.{Datum, ValueOf, as_value}
use Rattle.holder_model.specs.Dropping.{deinits_of, ended, field_references, in_phase}
use Rattle.holder_model.specs.Edges.{branch_of, carried_along, edge_of}
use Rattle.holder_model.specs.Effects as effects
use Rattle.holder_model.specs.Effects.{Change, only, unchanged}
use Rattle.holder_model.specs.Faults.{HolderFault, LeavesHeld, LeavesPlace, LeavesSlot, NoEntry, PlaceNotAsAsked, WrongShape}
use Rattle.holder_model.specs.Frames.{Entry, Frame, LentPlace, Operands, datum_in, entry_at, has_any, no_entries, operands_of, results_put}
use Rattle.holder_model.specs.HolderStates.{HolderNext, HolderState, strong_holders}
use Rattle.holder_model.specs.ModuleFacts.{ModuleFacts, facts_told}
use Rattle.holder_model.specs.Standing.{stands_at}
use Rattle.holder_model.specs.StepParts.{fault, new_frame, slots_behind}
use Rattle.holder_model.specs.States.{Drops, Ends, Finishes, Goes, OutOfTurns, Returned, Runs, Task, Trapped, dropping, frame_count}
use Rattle.holder_model.specs.Steps as steps

-- one more turn has begun
abbrev pub turned : HolderState → HolderState
turned s = record s { turns = s.turns + 1 }

module _ (m : Module) (told : ModuleFacts) (bound : ℕ) where
  -- ---- the frame goes on behind an item, or what it would be left with isn't right

  abbrev pub moved : HolderState → List (Task Frame) → Frame → Item → Change → List Place → List Entry → HolderState
  moved s rest frame i c slots entries = record s {
    tasks = dropping c.dropped (Runs (record frame { trail = i ∷ frame.trail; entries = entries; slots = slots; lent = [] }) ∷ rest);
    memory = c.memory;
    retains = s.retains + length c.retained;
  }

  pub data GoesBehind (s : HolderState) (rest : List (Task Frame)) (frame : Frame) (f : Function) (i : Item) (c : Change) : HolderNext → Type 0 where
    goes : (slots : List Place) (entries : List Entry) → slots_behind c.slots frame.slots ≡ Ok slots
        → results_put (facts_told told frame.function) (item_defined f i) c.results frame.entries ≡ Ok entries
        → GoesBehind s rest frame f i c (Goes (moved s rest frame i c slots entries))
    wrong_slot : (x : HolderFault) → slots_behind c.slots frame.slots ≡ Err x → GoesBehind s rest frame f i c (fault s x)
    wrong_result : (slots : List Place) (x : HolderFault) → slots_behind c.slots frame.slots ≡ Ok slots
        → results_put (facts_told told frame.function) (item_defined f i) c.results frame.entries ≡ Err x → GoesBehind s rest frame f i c (fault s x)

  -- ---- a function with a body is called over these tasks

  pub data Enters (s : HolderState) (rest : List (Task Frame)) (g : FuncId) (callee : Function) (args : List Datum) : HolderNext → Type 0 where
    enters : (entries : List Entry) → results_put (facts_told told g) (item_defined callee item.Entry) args (no_entries (value_count callee)) ≡ Ok entries
        → nat_lt (frame_count rest) FRAMES ≡ true → nat_lt s.turns bound ≡ true
        → Enters s rest g callee args (Goes (record (turned s) { tasks = Runs (new_frame g entries) ∷ rest }))
    wrong_argument : (x : HolderFault) → results_put (facts_told told g) (item_defined callee item.Entry) args (no_entries (value_count callee)) ≡ Err x
        → Enters s rest g callee args (fault s x)
    too_deep : nat_lt (frame_count rest) FRAMES ≡ false → Enters s rest g callee args (Ends (Trapped trap.Depth) s)
    no_turn : nat_lt (frame_count rest) FRAMES ≡ true → nat_lt s.turns bound ≡ false → Enters s rest g callee args (Ends OutOfTurns s)

  -- ---- what an instruction's effect leads to. The frame has lost the operands that ended

  -- while a callee runs, the frame waits for it with the places that are lent
  abbrev pub waiting : List (Task Frame) → Frame → List LentPlace → List (Task Frame)
  waiting rest frame lent = Runs (record frame { lent = lent }) ∷ rest

  -- the places that a call lends, by its operands behind the callee's
  abbrev pub lent_at : Function → Item → List Datum → List LentPlace
  lent_at f i args = lent_places (drop 1 (item_taken f i)) args

  pub data Performs (s : HolderState) (rest : List (Task Frame)) (frame : Frame) (f : Function)
      (i : Item) : effects.Effect HolderFault → HolderNext → Type 0 where
    makes : (c : Change) (next : HolderNext) → GoesBehind s rest frame f i c next → Performs s rest frame f i (effects.Makes c) next
    calls : (g : FuncId) (args : List Datum) (callee : Function) (next : HolderNext) → slice_get m.functions g.0 ≡ Some callee → has_any callee.blocks ≡ true
        → are_as_before s.memory (lent_at f i args) ≡ true
        → Enters (record s { memory = handed_over s.memory (lent_at f i args) }) (waiting rest frame (lent_at f i args)) g callee (map as_argument args) next
        → Performs s rest frame f i (effects.Calls g args) next
    calls_out : (g : FuncId) (args : List Datum) (callee : Function) (numbers : List ℤ) (next : HolderNext) → slice_get m.functions g.0 ≡ Some callee
        → has_any callee.blocks ≡ false → steps.numbers_of m told bound args ≡ Some numbers → nat_lt s.turns bound ≡ true
        → GoesBehind (record (turned s) { events = s.events ++ event.Call g numbers ∷ [] }) rest frame f i
        (record (unchanged s.memory) { results = ValueOf (value.Group value.NoValue) ∷ [] }) next
        → Performs s rest frame f i (effects.Calls g args) next
    no_turn : (g : FuncId) (args : List Datum) (callee : Function) (numbers : List ℤ) → slice_get m.functions g.0 ≡ Some callee
        → has_any callee.blocks ≡ false → steps.numbers_of m told bound args ≡ Some numbers → nat_lt s.turns bound ≡ false
        → Performs s rest frame f i (effects.Calls g args) (Ends OutOfTurns s)
    traps : (t : Trap) → Performs s rest frame f i (effects.Traps t) (Ends (Trapped t) s)
    -- and these are faults
    no_callee : (g : FuncId) (args : List Datum) → slice_get m.functions g.0 ≡ None → Performs s rest frame f i (effects.Calls g args) (fault s WrongShape)
    no_numbers : (g : FuncId) (args : List Datum) (callee : Function) → slice_get m.functions g.0 ≡ Some callee → has_any callee.blocks ≡ false
        → steps.numbers_of m told bound args ≡ None → Performs s rest frame f i (effects.Calls g args) (fault s WrongShape)
    wrong_place : (g : FuncId) (args : List Datum) (callee : Function) → slice_get m.functions g.0 ≡ Some callee → has_any callee.blocks ≡ true
        → are_as_before s.memory (lent_at f i args) ≡ false → Performs s rest frame f i (effects.Calls g args) (fault s PlaceNotAsAsked)
    faults : (x : HolderFault) → Performs s rest frame f i (effects.Faults x) (fault s x)
    unfit : Performs s rest frame f i effects.Unfit (fault s WrongShape)

  -- ---- returns

  -- what is returned reaches the task below
  pub data Reaches (s : HolderState) (x : Datum) : List (Task Frame) → HolderNext → Type 0 where
    ends : (v : Value) → as_value x ≡ Some v → Reaches s x [] (Ends (Returned v) (record s { tasks = [] }))
    resumes : (frame : Frame) (rest : List (Task Frame)) (f : Function) (next : HolderNext) → slice_get m.functions frame.function.0 ≡ Some f
        → GoesBehind s rest frame f (item.Inst (stands_at f frame.trail)) (record (unchanged s.memory) { results = x ∷ [] }) next
        → Reaches s x (Runs frame ∷ rest) next
    finishes : (deinits : List FuncId) (o : ObjectId) (rest : List (Task Frame))
        → Reaches s x (Finishes deinits o ∷ rest) (Goes (record s { tasks = Finishes deinits o ∷ rest }))
    -- and these are faults
    no_value : as_value x ≡ None → Reaches s x [] (fault s WrongShape)
    no_function : (frame : Frame) (rest : List (Task Frame)) → slice_get m.functions frame.function.0 ≡ None
        → Reaches s x (Runs frame ∷ rest) (fault s WrongShape)
    on_drops : (os : List ObjectId) (rest : List (Task Frame)) → Reaches s x (Drops os ∷ rest) (fault s WrongShape)

  -- the frame has lost the operands that ended
  pub data Leaves (s : HolderState) (rest : List (Task Frame)) (frame : Frame) (f : Function) (x : Datum) : HolderNext → Type 0 where
    leaves : (next : HolderNext) → holds_something frame.entries ≡ false → has_any frame.slots ≡ false
        → are_as_after s.memory (places_given f frame.entries) ≡ true → Reaches s x rest next → Leaves s rest frame f x next
    holds : holds_something frame.entries ≡ true → Leaves s rest frame f x (fault s LeavesHeld)
    has_slot : has_any frame.slots ≡ true → Leaves s rest frame f x (fault s LeavesSlot)
    wrong_place : are_as_after s.memory (places_given f frame.entries) ≡ false → Leaves s rest frame f x (fault s LeavesPlace)

  -- ---- a frame goes on

  -- the operands of the item in the frame
  abbrev pub operands_in : HolderState → Frame → Function → Item → Result Operands HolderFault
  operands_in s frame f i = operands_of (facts_told told frame.function) s.memory frame.entries (item_taken f i)

  -- the frame without the operands that ended
  abbrev pub left_with : Frame → Operands → Frame
  left_with frame ops = record frame { entries = ops.left }

  pub data TakesEdge (s : HolderState) (rest : List (Task Frame)) (frame : Frame) (f : Function) (e : EdgeId) : HolderNext → Type 0 where
    takes : (ops : Operands) (carried : List Datum) (next : HolderNext) → operands_in s frame f (item.Edge e) ≡ Ok ops
        → carried_along f e ops.given ≡ Some carried → nat_lt s.turns bound ≡ true
        → GoesBehind (turned s) rest (left_with frame ops) f (item.Edge e) (record (unchanged s.memory) { results = carried }) next
        → TakesEdge s rest frame f e next
    no_turn : (ops : Operands) (carried : List Datum) → operands_in s frame f (item.Edge e) ≡ Ok ops
        → carried_along f e ops.given ≡ Some carried → nat_lt s.turns bound ≡ false → TakesEdge s rest frame f e (Ends OutOfTurns s)
    -- and these are faults
    wrong_operand : (x : HolderFault) → operands_in s frame f (item.Edge e) ≡ Err x → TakesEdge s rest frame f e (fault s x)
    not_carried : (ops : Operands) → operands_in s frame f (item.Edge e) ≡ Ok ops → carried_along f e ops.given ≡ None
        → TakesEdge s rest frame f e (fault s WrongShape)

  -- the terminator chooses an edge by its operand's value
  pub data Chooses (frame : Frame) (i : Inst) : (Value → Option ℕ) → Type 0 where
    by_bit : ending_of i.op ≡ ending.TwoBranches → Chooses frame i branch_of
    by_case : ending_of i.op ≡ ending.Cases → Chooses frame i (steps.switch_edge m told bound frame i)

  -- the operand by which it chooses
  pub record IsChosenBy (frame : Frame) (i : Inst) (x : Option Datum) : Type 0 where
    pub operand : Operand
    pub first : slice_get i.operands 0 ≡ Some operand
    pub is : datum_in (entry_at frame.entries operand.value) ≡ x

  -- the frame stands behind all instructions of its block, at this terminator
  pub record StandsAtEnd (frame : Frame) (f : Function) (i : Inst) : Type 0 where
    pub behind : inst_at f (stands_at f frame.trail) ≡ None
    pub terminator : terminator_of f (stands_at f frame.trail).block.0 ≡ Some i

  pub data Acts (s : HolderState) (rest : List (Task Frame)) (frame : Frame) (f : Function) : HolderNext → Type 0 where
    does : (i : Inst) (ops : Operands) (next : HolderNext) → inst_at f (stands_at f frame.trail) ≡ Some i
        → operands_in s frame f (item.Inst (stands_at f frame.trail)) ≡ Ok ops
        → Performs s rest (left_with frame ops) f (item.Inst (stands_at f frame.trail)) (steps.effect_in m told bound s frame i ops.given) next
        → Acts s rest frame f next
    branches : (i : Inst) (next : HolderNext) → StandsAtEnd frame f i → ending_of i.op ≡ ending.OneBranch
        → TakesEdge s rest frame f (edge_of (stands_at f frame.trail) 0) next → Acts s rest frame f next
    chooses : (i : Inst) (choose : Value → Option ℕ) (x : Datum) (v : Value) (k : ℕ) (next : HolderNext) → StandsAtEnd frame f i → Chooses frame i choose
        → IsChosenBy frame i (Some x) → as_value x ≡ Some v → choose v ≡ Some k
        → TakesEdge s rest frame f (edge_of (stands_at f frame.trail) k) next → Acts s rest frame f next
    returns : (i : Inst) (ops : Operands) (x : Datum) (next : HolderNext) → StandsAtEnd frame f i → ending_of i.op ≡ ending.Return
        → operands_in s frame f (item.Exit (stands_at f frame.trail)) ≡ Ok ops → only ops.given ≡ Some x
        → Leaves s rest (left_with frame ops) f x next → Acts s rest frame f next
    unreachable : (i : Inst) → StandsAtEnd frame f i → ending_of i.op ≡ ending.Unreachable → Acts s rest frame f (Ends (Trapped trap.Unreachable) s)
    -- and these are faults
    wrong_operand : (i : Inst) (x : HolderFault) → inst_at f (stands_at f frame.trail) ≡ Some i
        → operands_in s frame f (item.Inst (stands_at f frame.trail)) ≡ Err x → Acts s rest frame f (fault s x)
    no_operand : (i : Inst) (choose : Value → Option ℕ) → StandsAtEnd frame f i → Chooses frame i choose → slice_get i.operands 0 ≡ None
        → Acts s rest frame f (fault s WrongShape)
    no_entry : (i : Inst) (choose : Value → Option ℕ) → StandsAtEnd frame f i → Chooses frame i choose → IsChosenBy frame i None
        → Acts s rest frame f (fault s NoEntry)
    no_value : (i : Inst) (choose : Value → Option ℕ) (x : Datum) → StandsAtEnd frame f i → Chooses frame i choose → IsChosenBy frame i (Some x)
        → as_value x ≡ None → Acts s rest frame f (fault s WrongShape)
    no_choice : (i : Inst) (choose : Value → Option ℕ) (x : Datum) (v : Value) → StandsAtEnd frame f i → Chooses frame i choose
        → IsChosenBy frame i (Some x) → as_value x ≡ Some v → choose v ≡ None → Acts s rest frame f (fault s WrongShape)
    wrong_returned : (i : Inst) (x : HolderFault) → StandsAtEnd frame f i → ending_of i.op ≡ ending.Return
        → operands_in s frame f (item.Exit (stands_at f frame.trail)) ≡ Err x → Acts s rest frame f (fault s x)
    not_one_returned : (i : Inst) (ops : Operands) → StandsAtEnd frame f i → ending_of i.op ≡ ending.Return
        → operands_in s frame f (item.Exit (stands_at f frame.trail)) ≡ Ok ops → only ops.given ≡ None → Acts s rest frame f (fault s WrongShape)
    no_ending : (i : Inst) → StandsAtEnd frame f i → ending_of i.op ≡ ending.Inside → Acts s rest frame f (fault s WrongShape)
    no_terminator : inst_at f (stands_at f frame.trail) ≡ None → terminator_of f (stands_at f frame.trail).block.0 ≡ None
        → Acts s rest frame f (fault s WrongShape)

  -- ---- drops and finishes

  -- the object starts to deinitialise
  abbrev pub deinitialising : HolderState → ObjectId → HolderState
  deinitialising s o = record (turned s) {
    tasks = Finishes (deinits_of (declarations_of m) (object_at s.memory o).class) o ∷ s.tasks;
    memory = in_phase Deiniting s.memory o;
    events = s.events ++ event.Deinit (object_at s.memory o).class o ∷ [];
  }

  -- a reference has been dropped
  pub data DropsOne (s : HolderState) (o : ObjectId) : HolderNext → Type 0 where
    held_still : (left : ℕ) → strong_holders s o ≡ suc left → DropsOne s o (Goes s)
    not_live : strong_holders s o ≡ 0 → is_live s.memory o ≡ false → DropsOne s o (Goes s)
    deinitialises : strong_holders s o ≡ 0 → is_live s.memory o ≡ true → nat_lt s.turns bound ≡ true → DropsOne s o (Goes (deinitialising s o))
    no_turn : strong_holders s o ≡ 0 → is_live s.memory o ≡ true → nat_lt s.turns bound ≡ false → DropsOne s o (Ends OutOfTurns s)

  -- the object is dead, and what its fields held waits to be dropped
  abbrev pub finished : HolderState → ObjectId → HolderState
  finished s o = record s {
    tasks = dropping (field_references (object_at s.memory o)) s.tasks;
    memory = with_object s.memory o (ended (object_at s.memory o));
  }

  pub data FinishesOne (s : HolderState) (o : ObjectId) : HolderNext → Type 0 where
    finishes : strong_holders s o ≡ 0 → FinishesOne s o (Goes (finished s o))
    escapes : (left : ℕ) → strong_holders s o ≡ suc left → FinishesOne s o (Ends (Trapped trap.Escaped) s)

  -- ---- a step

  abbrev pub with_tasks : HolderState → List (Task Frame) → HolderState
  with_tasks s tasks = record s { tasks = tasks }

  pub data StepsBy (s : HolderState) : HolderNext → Type 0 where
    runs : (frame : Frame) (rest : List (Task Frame)) (f : Function) (next : HolderNext) → s.tasks ≡ Runs frame ∷ rest
        → slice_get m.functions frame.function.0 ≡ Some f → Acts s rest frame f next → StepsBy s next
    dropped : (rest : List (Task Frame)) → s.tasks ≡ Drops [] ∷ rest → StepsBy s (Goes (with_tasks s rest))
    drops : (o : ObjectId) (os : List ObjectId) (rest : List (Task Frame)) (next : HolderNext) → s.tasks ≡ Drops (o ∷ os) ∷ rest
        → DropsOne (record s { tasks = Drops os ∷ rest; releases = s.releases + 1 }) o next → StepsBy s next
    finishes : (o : ObjectId) (rest : List (Task Frame)) (next : HolderNext) → s.tasks ≡ Finishes [] o ∷ rest
        → FinishesOne (with_tasks s rest) o next → StepsBy s next
    calls_deinit : (g : FuncId) (gs : List FuncId) (o : ObjectId) (rest : List (Task Frame)) (f : Function) (next : HolderNext)
        → s.tasks ≡ Finishes (g ∷ gs) o ∷ rest → slice_get m.functions g.0 ≡ Some f
        → Enters (with_tasks s (Finishes gs o ∷ rest)) (Finishes gs o ∷ rest) g f (ValueOf (value.Object o) ∷ []) next → StepsBy s next
    -- and these are faults
    no_task : s.tasks ≡ [] → StepsBy s (fault s WrongShape)
    no_function : (frame : Frame) (rest : List (Task Frame)) → s.tasks ≡ Runs frame ∷ rest → slice_get m.functions frame.function.0 ≡ None
        → StepsBy s (fault s WrongShape)
    no_deinit : (g : FuncId) (gs : List FuncId) (o : ObjectId) (rest : List (Task Frame)) → s.tasks ≡ Finishes (g ∷ gs) o ∷ rest
        → slice_get m.functions g.0 ≡ None → StepsBy s (fault (with_tasks s (Finishes gs o ∷ rest)) WrongShape)

-- each step goes one of these ways
abbrev pub AreStepsTold : Type 0
AreStepsTold = (m : Module) (told : ModuleFacts) (bound : ℕ) (s : HolderState) → StepsBy m told bound s (steps.step m told bound s)
