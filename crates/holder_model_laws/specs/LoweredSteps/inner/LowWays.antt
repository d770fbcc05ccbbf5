-- The ways that a step of a run of lowered code can take, each with what it found.
use Rattle.std.specs.Prelude.{◌≡◌, ℕ, suc, ℤ, ◌+◌, List, [], ◌∷◌, ◌++◌, true, false, find, map, nat_lt, Option, Some, None, Ok, Err, slice_get}
use Rattle.std.specs.declared.result.Result.{Result}
use Rattle.instruction_table.specs.Forms.{ending_of}
use Rattle.instruction_table.specs.declared.entries.Ending.TheVariants as ending
use Rattle.sil_ast.specs.declared.function.Function.{Function}
use Rattle.sil_ast.specs.declared.inst.Inst.{Inst}
use Rattle.sil_ast.specs.declared.module.Module.{Module}
use Rattle.sil_ast.specs.declared.place.EdgeId.{EdgeId}
use Rattle.sil_ast.specs.declared.place.FuncId.{FuncId}
use Rattle.sil_ast.specs.declared.place.ObjectId.{ObjectId}
use Rattle.sil_cfg.specs.declared.item.Item.{Item}
use Rattle.sil_cfg.specs.declared.item.Item.TheVariants as item
use Rattle.sil_cfg_items.specs.Items.{item_defined}
use Rattle.sil_cfg_items.specs.Parts.{inst_at, terminator_of}
use Rattle.sil_types_declarations.specs.TypeDefinitions.Declarations.{declarations_of}
use Rattle.holder_model.specs.holder_model_values.declared.run_values.phase.Phase.TheVariants.{Deiniting}
use Rattle.holder_model.specs.holder_model_values.RunValues.Memory.{is_dead, is_live, object_at, with_object}
use Rattle.holder_model.specs.holder_model_values.RunValues.Places.{Place}
use Rattle.holder_model.specs.holder_model_values.RunValues.Values as value
use Rattle.holder_model.specs.holder_model_values.RunValues.Values.{Value, references_of}
use Rattle.holder_model.specs.declared.event.Event.TheVariants as event
use Rattle.holder_model.specs.declared.limits.TheConstants.{FRAMES}
use Rattle.holder_model.specs.declared.trap.Trap.{Trap}
use Rattle.holder_model.specs.declared.trap.Trap.TheVariants as trap
use Rattle.holder_model.specs.Calling.{value_count}
use Rattle.holder_model.specs.Data.{Datum, ValueOf, as_value}
use Rattle.holder_model.specs.Dropping.{deinits_of, ended, field_references, in_phase}
use Rattle.holder_model.specs.Edges.{branch_of, carried_along, edge_of}
use Rattle.holder_model.specs.Effects as effects
use Rattle.holder_model.specs.Effects.{Change, only, unchanged}
use Rattle.holder_model.specs.Frames.{has_any}
use Rattle.holder_model.specs.ModuleShapes.{ModuleShapes, shapes_in}
use Rattle.holder_model.specs.Standing.{behind}
use Rattle.holder_model.specs.States.{Drops, Ends, Finishes, Goes, OutOfTurns, Returned, Runs, Task, Trapped, dropping, frame_count}
use Rattle.holder_model.specs.declared.lowered_run.low_fault.LowFault.{LowFault}
use Rattle.holder_model.specs.declared.lowered_run.low_fault.LowFault.TheVariants as fault
use Rattle.holder_model.specs.LoweredRun.LowEffects.{low_effect}
use Rattle.holder_model.specs.LoweredRun.LowFrames.{LowFrame, no_values, put_all, read_all}
use Rattle.holder_model.specs.LoweredRun.LowStepParts.{LowNext, LowState, fails, misfits, new_frame, numbers_for, slots_behind, values_taken}
use Rattle.holder_model.specs.LoweredRun.LowSteps as steps
use Rattle.holder_model.specs.LoweredRun.Stored.{changed, numbers_of, one_less, one_more, unnamed}

-- one more turn has begun
abbrev pub turned : LowState → LowState
turned s = record s { turns = s.turns + 1 }

-- one reference more of each object
abbrev pub retained : List ObjectId → LowState → LowState
retained [] s = s
retained (o ∷ os) s = retained os (record s { numbers = changed one_more s.numbers o; retains = s.retains + 1 })

module _ (m : Module) (told : ModuleShapes) (bound : ℕ) where
  -- ---- the frame goes on behind an item

  abbrev pub moved : LowState → List (Task LowFrame) → LowFrame → Function → Item → Change → List Place → List (Option Datum) → LowState
  moved s rest frame f i c slots values = record s {
    tasks = dropping c.dropped (Runs (record frame { at = behind f i; values = values; slots = slots }) ∷ rest);
    memory = c.memory;
    numbers = numbers_for c.memory s.numbers;
  }

  pub data GoesBehind (s : LowState) (rest : List (Task LowFrame)) (frame : LowFrame) (f : Function) (i : Item) (c : Change) : LowNext → Type 0 where
    goes : (slots : List Place) (values : List (Option Datum)) → slots_behind c.slots frame.slots ≡ Ok slots
        → put_all (item_defined f i) c.results frame.values ≡ Some values → find (is_dead s.memory) c.retained ≡ None
        → GoesBehind s rest frame f i c (Goes (moved (retained c.retained s) rest frame f i c slots values))
    -- and these are faults
    wrong_slot : (x : LowFault) → slots_behind c.slots frame.slots ≡ Err x → GoesBehind s rest frame f i c (fails s x)
    wrong_result : (slots : List Place) → slots_behind c.slots frame.slots ≡ Ok slots → put_all (item_defined f i) c.results frame.values ≡ None
        → GoesBehind s rest frame f i c (misfits s)
    retains_dead : (slots : List Place) (values : List (Option Datum)) (before behind : List ObjectId) (o : ObjectId)
        → slots_behind c.slots frame.slots ≡ Ok slots
        → put_all (item_defined f i) c.results frame.values ≡ Some values → before ++ o ∷ behind ≡ c.retained → find (is_dead s.memory) before ≡ None
        → is_dead s.memory o ≡ true → GoesBehind s rest frame f i c (fails (retained before s) (fault.Dead o))

  -- ---- a function with a body is called over these tasks

  pub data Enters (s : LowState) (rest : List (Task LowFrame)) (g : FuncId) (callee : Function) (args : List Datum) : LowNext → Type 0 where
    enters : (values : List (Option Datum)) → put_all (item_defined callee item.Entry) args (no_values (value_count callee)) ≡ Some values
        → nat_lt (frame_count rest) FRAMES ≡ true → nat_lt s.turns bound ≡ true
        → Enters s rest g callee args (Goes (record (turned s) { tasks = Runs (new_frame g values) ∷ rest }))
    too_deep : (values : List (Option Datum)) → put_all (item_defined callee item.Entry) args (no_values (value_count callee)) ≡ Some values
        → nat_lt (frame_count rest) FRAMES ≡ false → Enters s rest g callee args (Ends (Trapped trap.Depth) s)
    no_turn : (values : List (Option Datum)) → put_all (item_defined callee item.Entry) args (no_values (value_count callee)) ≡ Some values
        → nat_lt (frame_count rest) FRAMES ≡ true → nat_lt s.turns bound ≡ false → Enters s rest g callee args (Ends OutOfTurns s)
    -- and this is a fault
    wrong_argument : put_all (item_defined callee item.Entry) args (no_values (value_count callee)) ≡ None → Enters s rest g callee args (misfits s)

  -- ---- what an instruction's effect leads to

  pub data Performs (s : LowState) (rest : List (Task LowFrame)) (frame : LowFrame) (f : Function) (i : Item) : effects.Effect LowFault → LowNext → Type 0 where
    makes : (c : Change) (next : LowNext) → GoesBehind s rest frame f i c next → Performs s rest frame f i (effects.Makes c) next
    calls : (g : FuncId) (args : List Datum) (callee : Function) (next : LowNext) → slice_get m.functions g.0 ≡ Some callee → has_any callee.blocks ≡ true
        → Enters s (Runs frame ∷ rest) g callee args next → Performs s rest frame f i (effects.Calls g args) next
    calls_out : (g : FuncId) (args : List Datum) (callee : Function) (numbers : List ℤ) (next : LowNext) → slice_get m.functions g.0 ≡ Some callee
        → has_any callee.blocks ≡ false → steps.call_numbers m told bound args ≡ Some numbers → nat_lt s.turns bound ≡ true
        → GoesBehind (record (turned s) { events = s.events ++ event.Call g numbers ∷ [] }) rest frame f i
        (record (unchanged s.memory) { results = ValueOf (value.Group value.NoValue) ∷ [] }) next
        → Performs s rest frame f i (effects.Calls g args) next
    no_turn : (g : FuncId) (args : List Datum) (callee : Function) (numbers : List ℤ) → slice_get m.functions g.0 ≡ Some callee
        → has_any callee.blocks ≡ false → steps.call_numbers m told bound args ≡ Some numbers → nat_lt s.turns bound ≡ false
        → Performs s rest frame f i (effects.Calls g args) (Ends OutOfTurns s)
    traps : (t : Trap) → Performs s rest frame f i (effects.Traps t) (Ends (Trapped t) s)
    -- and these are faults
    no_callee : (g : FuncId) (args : List Datum) → slice_get m.functions g.0 ≡ None → Performs s rest frame f i (effects.Calls g args) (misfits s)
    no_numbers : (g : FuncId) (args : List Datum) (callee : Function) → slice_get m.functions g.0 ≡ Some callee → has_any callee.blocks ≡ false
        → steps.call_numbers m told bound args ≡ None → Performs s rest frame f i (effects.Calls g args) (misfits s)
    faults : (x : LowFault) → Performs s rest frame f i (effects.Faults x) (fails s x)
    unfit : Performs s rest frame f i effects.Unfit (misfits s)

  -- ---- returns

  -- what is returned reaches the task below
  pub data Reaches (s : LowState) (x : Datum) : List (Task LowFrame) → LowNext → Type 0 where
    ends : (v : Value) → as_value x ≡ Some v → find (is_dead s.memory) (references_of v) ≡ None → Reaches s x [] (Ends (Returned v) (record s { tasks = [] }))
    resumes : (frame : LowFrame) (rest : List (Task LowFrame)) (f : Function) (next : LowNext) → slice_get m.functions frame.function.0 ≡ Some f
        → GoesBehind s rest frame f (item.Inst frame.at) (record (unchanged s.memory) { results = x ∷ [] }) next
        → Reaches s x (Runs frame ∷ rest) next
    finishes : (deinits : List FuncId) (o : ObjectId) (rest : List (Task LowFrame))
        → Reaches s x (Finishes deinits o ∷ rest) (Goes (record s { tasks = Finishes deinits o ∷ rest }))
    -- and these are faults
    no_value : as_value x ≡ None → Reaches s x [] (misfits s)
    returns_dead : (v : Value) (o : ObjectId) → as_value x ≡ Some v → find (is_dead s.memory) (references_of v) ≡ Some o
        → Reaches s x [] (fails s (fault.Dead o))
    no_function : (frame : LowFrame) (rest : List (Task LowFrame)) → slice_get m.functions frame.function.0 ≡ None → Reaches s x (Runs frame ∷ rest) (misfits s)
    on_drops : (os : List ObjectId) (rest : List (Task LowFrame)) → Reaches s x (Drops os ∷ rest) (misfits s)

  -- ---- a frame goes on

  -- what the item takes, read in the frame
  abbrev pub read_in : LowFrame → Function → Item → Result (List Datum) LowFault
  read_in frame f i = read_all frame.values (values_taken f i)

  pub data TakesEdge (s : LowState) (rest : List (Task LowFrame)) (frame : LowFrame) (f : Function) (e : EdgeId) : LowNext → Type 0 where
    takes : (xs carried : List Datum) (next : LowNext) → read_in frame f (item.Edge e) ≡ Ok xs → carried_along f e xs ≡ Some carried
        → nat_lt s.turns bound ≡ true → GoesBehind (turned s) rest frame f (item.Edge e) (record (unchanged s.memory) { results = carried }) next
        → TakesEdge s rest frame f e next
    no_turn : (xs carried : List Datum) → read_in frame f (item.Edge e) ≡ Ok xs → carried_along f e xs ≡ Some carried
        → nat_lt s.turns bound ≡ false → TakesEdge s rest frame f e (Ends OutOfTurns s)
    -- and these are faults
    missing : (x : LowFault) → read_in frame f (item.Edge e) ≡ Err x → TakesEdge s rest frame f e (fails s x)
    not_carried : (xs : List Datum) → read_in frame f (item.Edge e) ≡ Ok xs → carried_along f e xs ≡ None → TakesEdge s rest frame f e (misfits s)

  -- the terminator chooses an edge by its operand's value
  pub data Chooses (frame : LowFrame) (i : Inst) : (Value → Option ℕ) → Type 0 where
    by_bit : ending_of i.op ≡ ending.TwoBranches → Chooses frame i branch_of
    by_case : ending_of i.op ≡ ending.Cases → Chooses frame i (steps.switch_edge m told bound frame i)

  -- the operands of a terminator
  abbrev pub chosen_by : LowFrame → Inst → Result (List Datum) LowFault
  chosen_by frame i = read_all frame.values (map (steps.operand_value m told bound) i.operands)

  -- the frame stands behind all instructions of its block, at this terminator
  pub record StandsAtEnd (frame : LowFrame) (f : Function) (i : Inst) : Type 0 where
    pub behind : inst_at f frame.at ≡ None
    pub terminator : terminator_of f frame.at.block.0 ≡ Some i

  abbrev pub effect_in : LowState → LowFrame → Inst → List Datum → effects.Effect LowFault
  effect_in s frame i xs = low_effect (declarations_of m) told (shapes_in told frame.function) s.memory i xs

  pub data Acts (s : LowState) (rest : List (Task LowFrame)) (frame : LowFrame) (f : Function) : LowNext → Type 0 where
    does : (i : Inst) (xs : List Datum) (next : LowNext) → inst_at f frame.at ≡ Some i → read_in frame f (item.Inst frame.at) ≡ Ok xs
        → Performs (steps.with_names m told bound s frame i xs) rest frame f (item.Inst frame.at) (effect_in s frame i xs) next → Acts s rest frame f next
    branches : (i : Inst) (next : LowNext) → StandsAtEnd frame f i → ending_of i.op ≡ ending.OneBranch
        → TakesEdge s rest frame f (edge_of frame.at 0) next → Acts s rest frame f next
    chooses : (i : Inst) (choose : Value → Option ℕ) (xs : List Datum) (x : Datum) (v : Value) (k : ℕ) (next : LowNext) → StandsAtEnd frame f i
        → Chooses frame i choose → chosen_by frame i ≡ Ok xs → only xs ≡ Some x → as_value x ≡ Some v → choose v ≡ Some k
        → TakesEdge s rest frame f (edge_of frame.at k) next → Acts s rest frame f next
    returns : (i : Inst) (xs : List Datum) (x : Datum) (next : LowNext) → StandsAtEnd frame f i → ending_of i.op ≡ ending.Return
        → read_in frame f (item.Exit frame.at) ≡ Ok xs → has_any frame.slots ≡ false → only xs ≡ Some x → Reaches s x rest next → Acts s rest frame f next
    unreachable : (i : Inst) → StandsAtEnd frame f i → ending_of i.op ≡ ending.Unreachable → Acts s rest frame f (Ends (Trapped trap.Unreachable) s)
    -- and these are faults
    missing : (i : Inst) (x : LowFault) → inst_at f frame.at ≡ Some i → read_in frame f (item.Inst frame.at) ≡ Err x → Acts s rest frame f (fails s x)
    missing_chosen : (i : Inst) (choose : Value → Option ℕ) (x : LowFault) → StandsAtEnd frame f i → Chooses frame i choose → chosen_by frame i ≡ Err x
        → Acts s rest frame f (fails s x)
    not_one_chosen : (i : Inst) (choose : Value → Option ℕ) (xs : List Datum) → StandsAtEnd frame f i → Chooses frame i choose → chosen_by frame i ≡ Ok xs
        → only xs ≡ None → Acts s rest frame f (misfits s)
    no_value : (i : Inst) (choose : Value → Option ℕ) (xs : List Datum) (x : Datum) → StandsAtEnd frame f i → Chooses frame i choose → chosen_by frame i ≡ Ok xs
        → only xs ≡ Some x → as_value x ≡ None → Acts s rest frame f (misfits s)
    no_choice : (i : Inst) (choose : Value → Option ℕ) (xs : List Datum) (x : Datum) (v : Value) → StandsAtEnd frame f i → Chooses frame i choose
        → chosen_by frame i ≡ Ok xs → only xs ≡ Some x → as_value x ≡ Some v → choose v ≡ None → Acts s rest frame f (misfits s)
    missing_returned : (i : Inst) (x : LowFault) → StandsAtEnd frame f i → ending_of i.op ≡ ending.Return → read_in frame f (item.Exit frame.at) ≡ Err x
        → Acts s rest frame f (fails s x)
    leaves_slot : (i : Inst) (xs : List Datum) → StandsAtEnd frame f i → ending_of i.op ≡ ending.Return → read_in frame f (item.Exit frame.at) ≡ Ok xs
        → has_any frame.slots ≡ true → Acts s rest frame f (fails s fault.Slot)
    not_one_returned : (i : Inst) (xs : List Datum) → StandsAtEnd frame f i → ending_of i.op ≡ ending.Return → read_in frame f (item.Exit frame.at) ≡ Ok xs
        → has_any frame.slots ≡ false → only xs ≡ None → Acts s rest frame f (misfits s)
    no_ending : (i : Inst) → StandsAtEnd frame f i → ending_of i.op ≡ ending.Inside → Acts s rest frame f (misfits s)
    no_terminator : inst_at f frame.at ≡ None → terminator_of f frame.at.block.0 ≡ None → Acts s rest frame f (misfits s)

  -- ---- releases and finishes

  -- the object starts to deinitialise
  abbrev pub deinitialising : LowState → ObjectId → LowState
  deinitialising s o = record (turned s) {
    tasks = Finishes (deinits_of (declarations_of m) (object_at s.memory o).class) o ∷ s.tasks;
    memory = in_phase Deiniting s.memory o;
    events = s.events ++ event.Deinit (object_at s.memory o).class o ∷ [];
  }

  -- its number has fallen to this, and the release is counted
  pub data Falls (s : LowState) (o : ObjectId) : ℕ → LowNext → Type 0 where
    held_still : (left : ℕ) → Falls s o (suc left) (Goes s)
    not_live : is_live s.memory o ≡ false → Falls s o 0 (Goes s)
    deinitialises : is_live s.memory o ≡ true → nat_lt s.turns bound ≡ true → Falls s o 0 (Goes (deinitialising s o))
    no_turn : is_live s.memory o ≡ true → nat_lt s.turns bound ≡ false → Falls s o 0 (Ends OutOfTurns s)

  abbrev pub released : LowState → ObjectId → LowState
  released s o = record s { numbers = changed one_less s.numbers o; releases = s.releases + 1 }

  pub data ReleasesOne (s : LowState) (o : ObjectId) : LowNext → Type 0 where
    releases : (left : ℕ) (next : LowNext) → is_dead s.memory o ≡ false → (numbers_of s.numbers o).strong ≡ suc left → Falls (released s o) o left next
        → ReleasesOne s o next
    -- and these are faults
    dead : is_dead s.memory o ≡ true → ReleasesOne s o (fails s (fault.Dead o))
    underflow : is_dead s.memory o ≡ false → (numbers_of s.numbers o).strong ≡ 0 → ReleasesOne s o (fails s (fault.Underflow o 0))

  -- the object's weak and unowned fields have ceased
  abbrev pub ceased : LowState → ObjectId → LowState
  ceased s o = record s { numbers = unnamed (object_at s.memory o).cells s.numbers }

  -- the object is dead, and what its fields held waits to be released
  abbrev pub finished : LowState → ObjectId → LowState
  finished s o = record (ceased s o) {
    tasks = dropping (field_references (object_at s.memory o)) s.tasks;
    memory = with_object s.memory o (ended (object_at s.memory o));
  }

  pub data FinishesOne (s : LowState) (o : ObjectId) : LowNext → Type 0 where
    finishes : (numbers_of s.numbers o).strong ≡ 0 → FinishesOne s o (Goes (finished s o))
    escapes : (left : ℕ) → (numbers_of s.numbers o).strong ≡ suc left → FinishesOne s o (Ends (Trapped trap.Escaped) (ceased s o))

  -- ---- a step

  abbrev pub with_tasks : LowState → List (Task LowFrame) → LowState
  with_tasks s tasks = record s { tasks = tasks }

  pub data StepsBy (s : LowState) : LowNext → Type 0 where
    runs : (frame : LowFrame) (rest : List (Task LowFrame)) (f : Function) (next : LowNext) → s.tasks ≡ Runs frame ∷ rest
        → slice_get m.functions frame.function.0 ≡ Some f → Acts s rest frame f next → StepsBy s next
    dropped : (rest : List (Task LowFrame)) → s.tasks ≡ Drops [] ∷ rest → StepsBy s (Goes (with_tasks s rest))
    drops : (o : ObjectId) (os : List ObjectId) (rest : List (Task LowFrame)) (next : LowNext) → s.tasks ≡ Drops (o ∷ os) ∷ rest
        → ReleasesOne (with_tasks s (Drops os ∷ rest)) o next → StepsBy s next
    finishes : (o : ObjectId) (rest : List (Task LowFrame)) (next : LowNext) → s.tasks ≡ Finishes [] o ∷ rest
        → FinishesOne (with_tasks s rest) o next → StepsBy s next
    calls_deinit : (g : FuncId) (gs : List FuncId) (o : ObjectId) (rest : List (Task LowFrame)) (f : Function) (next : LowNext)
        → s.tasks ≡ Finishes (g ∷ gs) o ∷ rest → slice_get m.functions g.0 ≡ Some f
        → Enters (with_tasks s (Finishes gs o ∷ rest)) (Finishes gs o ∷ rest) g f (ValueOf (value.Object o) ∷ []) next → StepsBy s next
    -- and these are faults
    no_task : s.tasks ≡ [] → StepsBy s (misfits s)
    no_function : (frame : LowFrame) (rest : List (Task LowFrame)) → s.tasks ≡ Runs frame ∷ rest → slice_get m.functions frame.function.0 ≡ None
        → StepsBy s (misfits s)
    no_deinit : (g : FuncId) (gs : List FuncId) (o : ObjectId) (rest : List (Task LowFrame)) → s.tasks ≡ Finishes (g ∷ gs) o ∷ rest
        → slice_get m.functions g.0 ≡ None → StepsBy s (misfits (with_tasks s (Finishes gs o ∷ rest)))

-- each step goes one of these ways
abbrev pub AreLowStepsTold : Type 0
AreLowStepsTold = (m : Module) (told : ModuleShapes) (bound : ℕ) (s : LowState) → StepsBy m told bound s (steps.low_step m told bound s)

-- and what is told is the step
abbrev pub AreToldStepsTaken : Type 0
AreToldStepsTaken = (m : Module) (told : ModuleShapes) (bound : ℕ) (s : LowState) (next : LowNext) → StepsBy m told bound s next
    → steps.low_step m told bound s ≡ next
