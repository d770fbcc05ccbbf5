-- Each step of a run of lowered code goes one of the ways that are told.
use Rattle.std.proofs.Common.{◌≡◌, ℕ, zero, suc, ◌+◌, List, [], ◌∷◌, ◌++◌, refl, ap, ◌∙◌, Bool, true, false, cond, Option, Some, None, Ok, Err}
use Rattle.std.specs.Prelude.{ℤ, find, nat_lt, option_and_then, slice_get}
use Rattle.std.specs.declared.result.Result.{Result}
use Rattle.instruction_table.specs.Forms.{ending_of}
use Rattle.instruction_table.specs.declared.entries.Ending.{Ending}
use Rattle.instruction_table.specs.declared.entries.Ending.TheVariants as ending
use Rattle.sil_ast.specs.declared.function.Function.{Function}
use Rattle.sil_ast.specs.declared.inst.Inst.{Inst}
use Rattle.sil_ast.specs.declared.module.Module.{Module}
use Rattle.sil_ast.specs.declared.place.EdgeId.{EdgeId}
use Rattle.sil_ast.specs.declared.place.FuncId.{FuncId}
use Rattle.sil_ast.specs.declared.place.ObjectId.{ObjectId}
use Rattle.sil_cfg.specs.declared.item.Item.{Item}
use Rattle.sil_cfg.specs.declared.item.Item.TheVariants as item
use Rattle.sil_cfg_items.specs.Items.{item_defined}
use Rattle.sil_cfg_items.specs.Parts.{inst_at, terminator_of}
use Rattle.sil_types_declarations.specs.TypeDefinitions.Declarations.{declarations_of}
use Rattle.holder_model.specs.holder_model_values.RunValues.Memory.{is_dead, is_live}
use Rattle.holder_model.specs.holder_model_values.RunValues.Places.{Place}
use Rattle.holder_model.specs.holder_model_values.RunValues.Values as value
use Rattle.holder_model.specs.holder_model_values.RunValues.Values.{Value, references_of}
use Rattle.holder_model.specs.declared.event.Event.TheVariants as event
use Rattle.holder_model.specs.declared.limits.TheConstants.{FRAMES}
use Rattle.holder_model.specs.declared.trap.Trap.TheVariants as trap
use Rattle.holder_model.specs.Calling.{value_count}
use Rattle.holder_model.specs.Data.{Datum, ValueOf, as_value}
use Rattle.holder_model.specs.Dropping.{deinitialises, drop_with, finish_with}
use Rattle.holder_model.specs.Edges.{branch_of, carried_along, edge_of}
use Rattle.holder_model.specs.Effects as effects
use Rattle.holder_model.specs.Effects.{Change, only, unchanged}
use Rattle.holder_model.specs.Frames.{has_any}
use Rattle.holder_model.specs.ModuleShapes.{ModuleShapes}
use Rattle.holder_model.specs.States.{Drops, Ends, Finishes, Goes, OutOfTurns, Runs, Task, Trapped, enter, frame_count, turn}
use Rattle.holder_model.specs.declared.lowered_run.low_fault.LowFault.{LowFault}
use Rattle.holder_model.specs.declared.lowered_run.low_fault.LowFault.TheVariants as fault
use Rattle.holder_model.specs.LoweredRun.LowFrames.{LowFrame, no_values, put_all}
use Rattle.holder_model.specs.LoweredRun.LowStepParts.{LowNext, LowState, fails, new_frame, on_ok, on_some, retains_each, slots_behind}
use Rattle.holder_model.specs.LoweredRun.LowSteps as steps
use Rattle.holder_model.specs.LoweredRun.Stored.{changed, numbers_of, one_more}
use Rattle.holder_model_laws.specs.LoweredSteps.inner.LowWays.{Acts, AreLowStepsTold, Chooses, Enters, Falls, FinishesOne, GoesBehind, Performs, Reaches, ReleasesOne, StandsAtEnd, StepsBy, TakesEdge}
use Rattle.holder_model_laws.specs.LoweredSteps.inner.LowWays.{ceased, chosen_by, deinitialising, effect_in, moved, read_in, released, retained, turned, with_tasks}

-- ---- references are made one after another, up to a dead object

module _ (go : LowState → LowNext) where
  data Retains (os : List ObjectId) (s : LowState) : LowNext → Type 0 where
    alive : find (is_dead s.memory) os ≡ None → Retains os s (go (retained os s))
    dead : (before behind : List ObjectId) (o : ObjectId) → before ++ o ∷ behind ≡ os → find (is_dead s.memory) before ≡ None
        → is_dead s.memory o ≡ true → Retains os s (fails (retained before s) (fault.Dead o))

  -- the first of the objects isn't dead
  one_more_first : (o : ObjectId) (os : List ObjectId) (s : LowState) (next : LowNext) → is_dead s.memory o ≡ false
      → Retains os (record s { numbers = changed one_more s.numbers o; retains = s.retains + 1 }) next → Retains (o ∷ os) s next
  one_more_first o os s _ e (Retains.alive h) = Retains.alive (rw e h)
  one_more_first o os s _ e (Retains.dead before behind p is h d) = Retains.dead (o ∷ before) behind p (ap (λ os. o ∷ os) is) (rw e h) d

  retains : (os : List ObjectId) (s : LowState) → Retains os s (retains_each os s go)
  retains [] s = Retains.alive refl
  retains (o ∷ os) s = by (is_dead s.memory o) refl _ (retains os (record s { numbers = changed one_more s.numbers o; retains = s.retains + 1 }))
    where
      by : (b : Bool) → is_dead s.memory o ≡ b → (next : LowNext) → Retains os (record s { numbers = changed one_more s.numbers o; retains = s.retains + 1 }) next
          → Retains (o ∷ os) s (cond b (fails s (fault.Dead o)) next)
      by true e next r = Retains.dead [] os o refl refl e
      by false e next r = one_more_first o os s next e r

module _ (m : Module) (told : ModuleShapes) (bound : ℕ) where
  -- ---- the frame goes on behind an item

  abbrev on_behind : List (Task LowFrame) → LowFrame → Function → Item → Change → List Place → List (Option Datum) → LowState → LowNext
  on_behind rest frame f i c slots values s = Goes (moved m told bound s rest frame f i c slots values)

  goes_behind : (s : LowState) (rest : List (Task LowFrame)) (frame : LowFrame) (f : Function) (i : Item) (c : Change)
      → GoesBehind m told bound s rest frame f i c (steps.goes_on m told bound s rest frame f i c)
  goes_behind s rest frame f i c = by_slots (slots_behind c.slots frame.slots) refl
    where
      by_objects : (slots : List Place) (values : List (Option Datum)) → slots_behind c.slots frame.slots ≡ Ok slots
          → put_all (item_defined f i) c.results frame.values ≡ Some values → (next : LowNext) → Retains (on_behind rest frame f i c slots values) c.retained s next
          → GoesBehind m told bound s rest frame f i c next
      by_objects slots values is put _ (Retains.alive h) = GoesBehind.goes slots values is put h
      by_objects slots values is put _ (Retains.dead before behind o those h d) = GoesBehind.retains_dead slots values before behind o is put those h d

      by_values : (slots : List Place) → slots_behind c.slots frame.slots ≡ Ok slots → (r : Option (List (Option Datum)))
          → put_all (item_defined f i) c.results frame.values ≡ r
          → GoesBehind m told bound s rest frame f i c (on_some s (λ values. retains_each c.retained s (on_behind rest frame f i c slots values)) r)
      by_values slots is (Some values) e = by_objects slots values is e _ (retains (on_behind rest frame f i c slots values) c.retained s)
      by_values slots is None e = GoesBehind.wrong_result slots is e

      by_slots : (r : Result (List Place) LowFault) → slots_behind c.slots frame.slots ≡ r
          → GoesBehind m told bound s rest frame f i c (on_ok s (λ slots. on_some s (λ values. retains_each c.retained s (on_behind rest frame f i c slots values))
          (put_all (item_defined f i) c.results frame.values)) r)
      by_slots (Ok slots) e = by_values slots e (put_all (item_defined f i) c.results frame.values) refl
      by_slots (Err x) e = GoesBehind.wrong_slot x e

  -- ---- a function with a body is called

  enters : (s : LowState) (rest : List (Task LowFrame)) (g : FuncId) (callee : Function) (args : List Datum)
      → Enters m told bound s rest g callee args (steps.calls_in m told bound s rest g callee args)
  enters s rest g callee args = by_values (put_all (item_defined callee item.Entry) args (no_values (value_count callee))) refl
    where
      by_turns : (values : List (Option Datum)) → put_all (item_defined callee item.Entry) args (no_values (value_count callee)) ≡ Some values
          → nat_lt (frame_count rest) FRAMES ≡ true → (b : Bool) → nat_lt s.turns bound ≡ b
          → Enters m told bound s rest g callee args
          (cond b (Goes (record (turned s) { tasks = Runs (new_frame g values) ∷ rest })) (Ends OutOfTurns s))
      by_turns values put deep true e = Enters.enters values put deep e
      by_turns values put deep false e = Enters.no_turn values put deep e

      by_depth : (values : List (Option Datum)) → put_all (item_defined callee item.Entry) args (no_values (value_count callee)) ≡ Some values
          → (b : Bool) → nat_lt (frame_count rest) FRAMES ≡ b
          → Enters m told bound s rest g callee args
          (cond b (turn bound s (λ s'. Goes (record s' { tasks = Runs (new_frame g values) ∷ rest }))) (Ends (Trapped trap.Depth) s))
      by_depth values put true e = by_turns values put e (nat_lt s.turns bound) refl
      by_depth values put false e = Enters.too_deep values put e

      by_values : (r : Option (List (Option Datum))) → put_all (item_defined callee item.Entry) args (no_values (value_count callee)) ≡ r
          → Enters m told bound s rest g callee args
          (on_some s (λ values. enter bound rest s (λ s'. Goes (record s' { tasks = Runs (new_frame g values) ∷ rest }))) r)
      by_values (Some values) e = by_depth values e (nat_lt (frame_count rest) FRAMES) refl
      by_values None e = Enters.wrong_argument e

  -- ---- an instruction's effect

  module _ (s : LowState) (rest : List (Task LowFrame)) (frame : LowFrame) (f : Function) (i : Item) where
    call_performs : (g : FuncId) (args : List Datum) (o : Option Function) → slice_get m.functions g.0 ≡ o
        → Performs m told bound s rest frame f i (effects.Calls g args) (on_some s (steps.calls m told bound s rest frame f i g args) o)
    call_performs g args None there = Performs.no_callee g args there
    call_performs g args (Some callee) there = by_body (has_any callee.blocks) refl
      where
        by_turns : has_any callee.blocks ≡ false → (numbers : List ℤ) → steps.call_numbers m told bound args ≡ Some numbers
            → (b : Bool) → nat_lt s.turns bound ≡ b
            → Performs m told bound s rest frame f i (effects.Calls g args)
            (cond b (steps.goes_on m told bound (record (turned s) { events = s.events ++ event.Call g numbers ∷ [] }) rest frame f i
            (record (unchanged s.memory) { results = ValueOf (value.Group value.NoValue) ∷ [] })) (Ends OutOfTurns s))
        by_turns bare numbers is true e =
            Performs.calls_out g args callee numbers _ there bare is e
            (goes_behind (record (turned s) { events = s.events ++ event.Call g numbers ∷ [] }) rest frame f i
            (record (unchanged s.memory) { results = ValueOf (value.Group value.NoValue) ∷ [] }))
        by_turns bare numbers is false e = Performs.no_turn g args callee numbers there bare is e

        by_numbers : has_any callee.blocks ≡ false → (o : Option (List ℤ)) → steps.call_numbers m told bound args ≡ o
            → Performs m told bound s rest frame f i (effects.Calls g args) (on_some s (steps.calls_out m told bound s rest frame f i g) o)
        by_numbers bare (Some numbers) is = by_turns bare numbers is (nat_lt s.turns bound) refl
        by_numbers bare None is = Performs.no_numbers g args callee there bare is

        by_body : (b : Bool) → has_any callee.blocks ≡ b
            → Performs m told bound s rest frame f i (effects.Calls g args)
            (cond b (steps.calls_in m told bound s (Runs frame ∷ rest) g callee args)
            (on_some s (steps.calls_out m told bound s rest frame f i g) (steps.call_numbers m told bound args)))
        by_body true bodied = Performs.calls g args callee _ there bodied (enters s (Runs frame ∷ rest) g callee args)
        by_body false bare = by_numbers bare (steps.call_numbers m told bound args) refl

    performs : (e : effects.Effect LowFault) → Performs m told bound s rest frame f i e (steps.performs m told bound s rest frame f i e)
    performs (effects.Makes c) = Performs.makes c _ (goes_behind s rest frame f i c)
    performs (effects.Calls g args) = call_performs g args (slice_get m.functions g.0) refl
    performs (effects.Traps t) = Performs.traps t
    performs (effects.Faults x) = Performs.faults x
    performs effects.Unfit = Performs.unfit

  -- ---- returns

  reaches : (s : LowState) (x : Datum) (rest : List (Task LowFrame)) → Reaches m told bound s x rest (steps.returns_to m told bound s x rest)
  reaches s x [] = by_value (as_value x) refl
    where
      by_object : (v : Value) → as_value x ≡ Some v → (o : Option ObjectId) → find (is_dead s.memory) (references_of v) ≡ o
          → Reaches m told bound s x [] (steps.leaves_run m told bound s v o)
      by_object v worth None e = Reaches.ends v worth e
      by_object v worth (Some o) e = Reaches.returns_dead v o worth e

      by_value : (o : Option Value) → as_value x ≡ o
          → Reaches m told bound s x [] (on_some s (λ v. steps.leaves_run m told bound s v (find (is_dead s.memory) (references_of v))) o)
      by_value (Some v) e = by_object v e (find (is_dead s.memory) (references_of v)) refl
      by_value None e = Reaches.no_value e
  reaches s x (Runs frame ∷ rest) = by_function (slice_get m.functions frame.function.0) refl
    where
      by_function : (o : Option Function) → slice_get m.functions frame.function.0 ≡ o
          → Reaches m told bound s x (Runs frame ∷ rest)
          (on_some s (λ f. steps.goes_on m told bound s rest frame f (item.Inst frame.at) (record (unchanged s.memory) { results = x ∷ [] })) o)
      by_function (Some f) e =
          Reaches.resumes frame rest f _ e (goes_behind s rest frame f (item.Inst frame.at) (record (unchanged s.memory) { results = x ∷ [] }))
      by_function None e = Reaches.no_function frame rest e
  reaches s x (Drops os ∷ rest) = Reaches.on_drops os rest
  reaches s x (Finishes deinits o ∷ rest) = Reaches.finishes deinits o rest

  -- ---- a frame goes on

  module _ (s : LowState) (rest : List (Task LowFrame)) (frame : LowFrame) (f : Function) where
    takes_edge : (e : EdgeId) → TakesEdge m told bound s rest frame f e (steps.takes_edge m told bound s rest frame f e)
    takes_edge e = by_read (read_in m told bound frame f (item.Edge e)) refl
      where
        by_turns : (xs carried : List Datum) → read_in m told bound frame f (item.Edge e) ≡ Ok xs → carried_along f e xs ≡ Some carried
            → (b : Bool) → nat_lt s.turns bound ≡ b
            → TakesEdge m told bound s rest frame f e (cond b (steps.goes_on m told bound (turned s) rest frame f (item.Edge e)
            (record (unchanged s.memory) { results = carried })) (Ends OutOfTurns s))
        by_turns xs carried read is true b =
            TakesEdge.takes xs carried _ read is b (goes_behind (turned s) rest frame f (item.Edge e) (record (unchanged s.memory) { results = carried }))
        by_turns xs carried read is false b = TakesEdge.no_turn xs carried read is b

        by_carried : (xs : List Datum) → read_in m told bound frame f (item.Edge e) ≡ Ok xs → (o : Option (List Datum)) → carried_along f e xs ≡ o
            → TakesEdge m told bound s rest frame f e (on_some s (λ carried. turn bound s (λ s'.
            steps.goes_on m told bound s' rest frame f (item.Edge e) (record (unchanged s'.memory) { results = carried }))) o)
        by_carried xs read (Some carried) is = by_turns xs carried read is (nat_lt s.turns bound) refl
        by_carried xs read None is = TakesEdge.not_carried xs read is

        by_read : (r : Result (List Datum) LowFault) → read_in m told bound frame f (item.Edge e) ≡ r
            → TakesEdge m told bound s rest frame f e (on_ok s (λ xs. on_some s (λ carried. turn bound s (λ s'.
            steps.goes_on m told bound s' rest frame f (item.Edge e) (record (unchanged s'.memory) { results = carried })))
            (carried_along f e xs)) r)
        by_read (Ok xs) read = by_carried xs read (carried_along f e xs) refl
        by_read (Err x) read = TakesEdge.missing x read

    -- the edge that the terminator's operand chooses
    module _ (i : Inst) (choose : Value → Option ℕ) (stands : StandsAtEnd m told bound frame f i) (how : Chooses m told bound frame i choose) where
      abbrev taken : ℕ → LowNext
      taken k = steps.takes_edge m told bound s rest frame f (edge_of frame.at k)

      by_choice : (xs : List Datum) (x : Datum) (v : Value) → chosen_by m told bound frame i ≡ Ok xs → only xs ≡ Some x → as_value x ≡ Some v
          → (o : Option ℕ) → choose v ≡ o → Acts m told bound s rest frame f (on_some s taken o)
      by_choice xs x v read one worth (Some k) e = Acts.chooses i choose xs x v k _ stands how read one worth e (takes_edge (edge_of frame.at k))
      by_choice xs x v read one worth None e = Acts.no_choice i choose xs x v stands how read one worth e

      by_value : (xs : List Datum) (x : Datum) → chosen_by m told bound frame i ≡ Ok xs → only xs ≡ Some x → (o : Option Value) → as_value x ≡ o
          → Acts m told bound s rest frame f (on_some s taken (option_and_then choose o))
      by_value xs x read one (Some v) e = by_choice xs x v read one e (choose v) refl
      by_value xs x read one None e = Acts.no_value i choose xs x stands how read one e

      by_datum : (xs : List Datum) → chosen_by m told bound frame i ≡ Ok xs → (o : Option Datum) → only xs ≡ o
          → Acts m told bound s rest frame f (on_some s taken (option_and_then choose (option_and_then as_value o)))
      by_datum xs read (Some x) e = by_value xs x read e (as_value x) refl
      by_datum xs read None e = Acts.not_one_chosen i choose xs stands how read e

      by_read : (r : Result (List Datum) LowFault) → chosen_by m told bound frame i ≡ r
          → Acts m told bound s rest frame f (on_ok s (steps.chosen_edge m told bound s choose taken) r)
      by_read (Ok xs) read = by_datum xs read (only xs) refl
      by_read (Err x) read = Acts.missing_chosen i choose x stands how read

      chosen : Acts m told bound s rest frame f (steps.with_chosen m told bound s frame i choose taken)
      chosen = by_read (chosen_by m told bound frame i) refl

    module _ (i : Inst) (stands : StandsAtEnd m told bound frame f i) where
      returns : ending_of i.op ≡ ending.Return → Acts m told bound s rest frame f (steps.returns m told bound s rest frame f)
      returns is = by_read (read_in m told bound frame f (item.Exit frame.at)) refl
        where
          by_returned : (xs : List Datum) → read_in m told bound frame f (item.Exit frame.at) ≡ Ok xs → has_any frame.slots ≡ false
              → (o : Option Datum) → only xs ≡ o → Acts m told bound s rest frame f (on_some s (λ x. steps.returns_to m told bound s x rest) o)
          by_returned xs read slots (Some x) e = Acts.returns i xs x _ stands is read slots e (reaches s x rest)
          by_returned xs read slots None e = Acts.not_one_returned i xs stands is read slots e

          by_slots : (xs : List Datum) → read_in m told bound frame f (item.Exit frame.at) ≡ Ok xs → (b : Bool) → has_any frame.slots ≡ b
              → Acts m told bound s rest frame f (cond b (fails s fault.Slot) (on_some s (λ x. steps.returns_to m told bound s x rest) (only xs)))
          by_slots xs read true e = Acts.leaves_slot i xs stands is read e
          by_slots xs read false e = by_returned xs read e (only xs) refl

          by_read : (r : Result (List Datum) LowFault) → read_in m told bound frame f (item.Exit frame.at) ≡ r
              → Acts m told bound s rest frame f
              (on_ok s (λ xs. cond (has_any frame.slots) (fails s fault.Slot) (on_some s (λ x. steps.returns_to m told bound s x rest) (only xs))) r)
          by_read (Ok xs) read = by_slots xs read (has_any frame.slots) refl
          by_read (Err x) read = Acts.missing_returned i x stands is read

      ends_block : (e : Ending) → ending_of i.op ≡ e → Acts m told bound s rest frame f (steps.ends_block_by m told bound e s rest frame f i)
      ends_block ending.Inside is = Acts.no_ending i stands is
      ends_block ending.OneBranch is = Acts.branches i _ stands is (takes_edge (edge_of frame.at 0))
      ends_block ending.TwoBranches is = chosen i branch_of stands (Chooses.by_bit is)
      ends_block ending.Cases is = chosen i (steps.switch_edge m told bound frame i) stands (Chooses.by_case is)
      ends_block ending.Return is = returns is
      ends_block ending.Unreachable is = Acts.unreachable i stands is

    acts : (o : Option Inst) → inst_at f frame.at ≡ o → Acts m told bound s rest frame f (steps.acts m told bound s rest frame f o)
    acts (Some i) here = by_read (read_in m told bound frame f (item.Inst frame.at)) refl
      where
        by_read : (r : Result (List Datum) LowFault) → read_in m told bound frame f (item.Inst frame.at) ≡ r
            → Acts m told bound s rest frame f (on_ok s (λ xs. steps.performs m told bound (steps.with_names m told bound s frame i xs) rest frame f
            (item.Inst frame.at) (effect_in m told bound s frame i xs)) r)
        by_read (Ok xs) read =
            Acts.does i xs _ here read
            (performs (steps.with_names m told bound s frame i xs) rest frame f (item.Inst frame.at) (effect_in m told bound s frame i xs))
        by_read (Err x) read = Acts.missing i x here read
    acts None here = by_terminator (terminator_of f frame.at.block.0) refl
      where
        by_terminator : (o : Option Inst) → terminator_of f frame.at.block.0 ≡ o
            → Acts m told bound s rest frame f (on_some s (λ i. steps.ends_block_by m told bound (ending_of i.op) s rest frame f i) o)
        by_terminator (Some i) e = ends_block i (record { behind = here; terminator = e }) (ending_of i.op) refl
        by_terminator None e = Acts.no_terminator here e

  -- ---- releases and finishes

  falls : (s : LowState) (o : ObjectId) (n : ℕ) → Falls m told bound s o n (drop_with (declarations_of m) bound s o n)
  falls s o zero = by_phase (is_live s.memory o) refl
    where
      by_turns : is_live s.memory o ≡ true → (b : Bool) → nat_lt s.turns bound ≡ b
          → Falls m told bound s o 0 (cond b (Goes (deinitialising m told bound s o)) (Ends OutOfTurns s))
      by_turns live true e = Falls.deinitialises live e
      by_turns live false e = Falls.no_turn live e

      by_phase : (b : Bool) → is_live s.memory o ≡ b → Falls m told bound s o 0 (cond b (deinitialises (declarations_of m) bound s o) (Goes s))
      by_phase true e = by_turns e (nat_lt s.turns bound) refl
      by_phase false e = Falls.not_live e
  falls s o (suc left) = Falls.held_still left

  releases_one : (s : LowState) (o : ObjectId) → ReleasesOne m told bound s o (steps.releases_one m told bound s o)
  releases_one s o = by_phase (is_dead s.memory o) refl
    where
      by_number : is_dead s.memory o ≡ false → (n : ℕ) → (numbers_of s.numbers o).strong ≡ n
          → ReleasesOne m told bound s o (steps.releases_with m told bound s o n)
      by_number lives zero e = ReleasesOne.underflow lives e
      by_number lives (suc left) e = ReleasesOne.releases left _ lives e (falls (released m told bound s o) o left)

      by_phase : (b : Bool) → is_dead s.memory o ≡ b
          → ReleasesOne m told bound s o (cond b (fails s (fault.Dead o)) (steps.releases_with m told bound s o (numbers_of s.numbers o).strong))
      by_phase true e = ReleasesOne.dead e
      by_phase false e = by_number e (numbers_of s.numbers o).strong refl

  finishes_one : (s : LowState) (o : ObjectId) → FinishesOne m told bound s o (steps.finishes m told bound s o)
  finishes_one s o = by_number (numbers_of s.numbers o).strong refl
    where
      by_number : (n : ℕ) → (numbers_of s.numbers o).strong ≡ n → FinishesOne m told bound s o (finish_with (ceased m told bound s o) o n)
      by_number zero e = FinishesOne.finishes e
      by_number (suc left) e = FinishesOne.escapes left e

  -- ---- a step

  by_tasks : (s : LowState) (tasks : List (Task LowFrame)) → s.tasks ≡ tasks → StepsBy m told bound s (steps.task_step m told bound s tasks)
  by_tasks s [] is = StepsBy.no_task is
  by_tasks s (Runs frame ∷ rest) is = by_function (slice_get m.functions frame.function.0) refl
    where
      by_function : (o : Option Function) → slice_get m.functions frame.function.0 ≡ o
          → StepsBy m told bound s (on_some s (λ f. steps.acts m told bound s rest frame f (inst_at f frame.at)) o)
      by_function (Some f) e = StepsBy.runs frame rest f _ is e (acts s rest frame f (inst_at f frame.at) refl)
      by_function None e = StepsBy.no_function frame rest is e
  by_tasks s (Drops [] ∷ rest) is = StepsBy.dropped rest is
  by_tasks s (Drops (o ∷ os) ∷ rest) is = StepsBy.drops o os rest _ is (releases_one (with_tasks m told bound s (Drops os ∷ rest)) o)
  by_tasks s (Finishes [] o ∷ rest) is = StepsBy.finishes o rest _ is (finishes_one (with_tasks m told bound s rest) o)
  by_tasks s (Finishes (g ∷ gs) o ∷ rest) is = by_function (slice_get m.functions g.0) refl
    where
      by_function : (x : Option Function) → slice_get m.functions g.0 ≡ x
          → StepsBy m told bound s (on_some (with_tasks m told bound s (Finishes gs o ∷ rest))
          (λ f. steps.calls_in m told bound (with_tasks m told bound s (Finishes gs o ∷ rest)) (Finishes gs o ∷ rest) g f (ValueOf (value.Object o) ∷ [])) x)
      by_function (Some f) e =
          StepsBy.calls_deinit g gs o rest f _ is e
          (enters (with_tasks m told bound s (Finishes gs o ∷ rest)) (Finishes gs o ∷ rest) g f (ValueOf (value.Object o) ∷ []))
      by_function None e = StepsBy.no_deinit g gs o rest is e

pub low_told : AreLowStepsTold
low_told m told bound s = by_tasks m told bound s s.tasks refl
