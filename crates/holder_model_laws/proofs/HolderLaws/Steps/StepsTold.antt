-- Each step of a run by holders goes one of the ways that are told.
use Rattle.std.proofs.Common.{◌≡◌, ℕ, zero, suc, ◌+◌, arith, List, [], ◌∷◌, ◌++◌, map, refl, sym, ap, ◌∙◌, subst, Bool, true, false, cond, Option, Some, None, Ok, Err}
use Rattle.std.specs.Prelude.{ℤ, nat_lt, option_and_then, option_map, slice_get, sum}
use Rattle.std.specs.declared.result.Result.{Result}
use Rattle.instruction_table.specs.Forms.{ending_of}
use Rattle.instruction_table.specs.declared.entries.Ending.{Ending}
use Rattle.instruction_table.specs.declared.entries.Ending.TheVariants as ending
use Rattle.sil_ast.specs.declared.decl.Storage.TheVariants as storage
use Rattle.sil_ast.specs.declared.function.Function.{Function}
use Rattle.sil_ast.specs.declared.inst.Inst.{Inst}
use Rattle.sil_ast.specs.declared.module.Module.{Module}
use Rattle.sil_ast.specs.declared.operands.Operand.{Operand}
use Rattle.sil_ast.specs.declared.place.EdgeId.{EdgeId}
use Rattle.sil_ast.specs.declared.place.FuncId.{FuncId}
use Rattle.sil_ast.specs.declared.place.ObjectId.{ObjectId}
use Rattle.sil_cfg.specs.declared.item.Item.{Item}
use Rattle.sil_cfg.specs.declared.item.Item.TheVariants as item
use Rattle.sil_cfg_items.specs.Items.{item_defined}
use Rattle.sil_cfg_items.specs.Parts.{inst_at, terminator_of}
use Rattle.sil_types_declarations.specs.TypeDefinitions.Declarations.{declarations_of}
use Rattle.holder_model.specs.holder_model_values.RunValues.Memory.{is_live}
use Rattle.holder_model.specs.holder_model_values.RunValues.Places.{Place}
use Rattle.holder_model.specs.holder_model_values.RunValues.Values as value
use Rattle.holder_model.specs.holder_model_values.RunValues.Values.{Value}
use Rattle.holder_model.specs.declared.event.Event.TheVariants as event
use Rattle.holder_model.specs.declared.limits.TheConstants.{FRAMES}
use Rattle.holder_model.specs.declared.trap.Trap.TheVariants as trap
use Rattle.holder_model.specs.Calling.{are_as_after, are_as_before, as_argument, handed_over, holds_something, places_given, value_count}
use Rattle.holder_model.specs.Data.{Datum, ValueOf, as_value}
use Rattle.holder_model.specs.Dropping.{deinitialises, drop_with, finish_with}
use Rattle.holder_model.specs.Edges.{branch_of, carried_along, edge_of}
use Rattle.holder_model.specs.Effects as effects
use Rattle.holder_model.specs.Effects.{Change, only, unchanged}
use Rattle.holder_model.specs.Faults.{HolderFault, LeavesHeld, LeavesPlace, LeavesSlot, PlaceNotAsAsked}
use Rattle.holder_model.specs.Frames.{Entry, Frame, Operands, datum_in, entry_at, has_any, no_entries, results_put}
use Rattle.holder_model.specs.HolderStates.{HolderNext, HolderState, in_task, strong_holders}
use Rattle.holder_model.specs.Holders.{in_memory, one_object}
use Rattle.holder_model.specs.ModuleFacts.{ModuleFacts, facts_told}
use Rattle.holder_model.specs.Standing.{stands_at}
use Rattle.holder_model.specs.StepParts.{chosen_by, chosen_edge, fault, new_frame, on_ok, on_some, slots_behind, with_chosen}
use Rattle.holder_model.specs.States.{Drops, Ends, Finishes, Goes, OutOfTurns, Returned, Runs, Task, Trapped, enter, frame_count, turn}
use Rattle.holder_model.specs.Steps as steps
use Rattle.holder_model_laws.specs.HolderLaws.inner.Steps.Ways.{Acts, AreStepsTold, Chooses, DropsOne, Enters, FinishesOne, GoesBehind, IsChosenBy, Leaves, Performs, Reaches, StandsAtEnd, StepsBy}
use Rattle.holder_model_laws.specs.HolderLaws.inner.Steps.Ways.{TakesEdge}
use Rattle.holder_model_laws.specs.HolderLaws.inner.Steps.Ways.{deinitialising, left_with, lent_at, moved, operands_in, turned, waiting}

module _ (m : Module) (told : ModuleFacts) (bound : ℕ) where
  -- ---- the frame goes on behind an item

  goes_behind : (s : HolderState) (rest : List (Task Frame)) (frame : Frame) (f : Function) (i : Item) (c : Change)
      → GoesBehind m told bound s rest frame f i c (steps.goes_on m told bound s rest frame f i c)
  goes_behind s rest frame f i c = by_slots (slots_behind c.slots frame.slots) refl
    where
      by_entries : (slots : List Place) → slots_behind c.slots frame.slots ≡ Ok slots → (r : Result (List Entry) HolderFault)
          → results_put (facts_told told frame.function) (item_defined f i) c.results frame.entries ≡ r
          → GoesBehind m told bound s rest frame f i c (on_ok s (λ entries. Goes (moved m told bound s rest frame i c slots entries)) r)
      by_entries slots is (Ok entries) e = GoesBehind.goes slots entries is e
      by_entries slots is (Err x) e = GoesBehind.wrong_result slots x is e

      by_slots : (r : Result (List Place) HolderFault) → slots_behind c.slots frame.slots ≡ r
          → GoesBehind m told bound s rest frame f i c (on_ok s (λ slots. on_ok s (λ entries. Goes (moved m told bound s rest frame i c slots entries))
          (results_put (facts_told told frame.function) (item_defined f i) c.results frame.entries)) r)
      by_slots (Ok slots) e = by_entries slots e (results_put (facts_told told frame.function) (item_defined f i) c.results frame.entries) refl
      by_slots (Err x) e = GoesBehind.wrong_slot x e

  -- ---- a function with a body is called

  enters : (s : HolderState) (rest : List (Task Frame)) (g : FuncId) (callee : Function) (args : List Datum)
      → Enters m told bound s rest g callee args (steps.calls_in m told bound s rest g callee args)
  enters s rest g callee args = by_entries (results_put (facts_told told g) (item_defined callee item.Entry) args (no_entries (value_count callee))) refl
    where
      by_turns : (entries : List Entry) → results_put (facts_told told g) (item_defined callee item.Entry) args (no_entries (value_count callee)) ≡ Ok entries
          → nat_lt (frame_count rest) FRAMES ≡ true → (b : Bool) → nat_lt s.turns bound ≡ b
          → Enters m told bound s rest g callee args
          (cond b (Goes (record (turned s) { tasks = Runs (new_frame g entries) ∷ rest })) (Ends OutOfTurns s))
      by_turns entries put deep true e = Enters.enters entries put deep e
      by_turns entries put deep false e = Enters.no_turn deep e

      by_depth : (entries : List Entry) → results_put (facts_told told g) (item_defined callee item.Entry) args (no_entries (value_count callee)) ≡ Ok entries
          → (b : Bool) → nat_lt (frame_count rest) FRAMES ≡ b
          → Enters m told bound s rest g callee args
          (cond b (turn bound s (λ s'. Goes (record s' { tasks = Runs (new_frame g entries) ∷ rest }))) (Ends (Trapped trap.Depth) s))
      by_depth entries put true e = by_turns entries put e (nat_lt s.turns bound) refl
      by_depth entries put false e = Enters.too_deep e

      by_entries : (r : Result (List Entry) HolderFault)
          → results_put (facts_told told g) (item_defined callee item.Entry) args (no_entries (value_count callee)) ≡ r
          → Enters m told bound s rest g callee args
          (on_ok s (λ entries. enter bound rest s (λ s'. Goes (record s' { tasks = Runs (new_frame g entries) ∷ rest }))) r)
      by_entries (Ok entries) e = by_depth entries e (nat_lt (frame_count rest) FRAMES) refl
      by_entries (Err x) e = Enters.wrong_argument x e

  -- ---- an instruction's effect

  module _ (s : HolderState) (rest : List (Task Frame)) (frame : Frame) (f : Function) (i : Item) where
    call_performs : (g : FuncId) (args : List Datum) (o : Option Function) → slice_get m.functions g.0 ≡ o
        → Performs m told bound s rest frame f i (effects.Calls g args) (on_some s (steps.calls m told bound s rest frame f i g args) o)
    call_performs g args None there = Performs.no_callee g args there
    call_performs g args (Some callee) there = by_body (has_any callee.blocks) refl
      where
        by_places : has_any callee.blocks ≡ true → (b : Bool) → are_as_before s.memory (lent_at m told bound f i args) ≡ b
            → Performs m told bound s rest frame f i (effects.Calls g args)
            (cond b (steps.calls_in m told bound (record s { memory = handed_over s.memory (lent_at m told bound f i args) })
            (waiting m told bound rest frame (lent_at m told bound f i args)) g callee (map as_argument args)) (fault s PlaceNotAsAsked))
        by_places bodied true e =
            Performs.calls g args callee _ there bodied e
            (enters (record s { memory = handed_over s.memory (lent_at m told bound f i args) }) (waiting m told bound rest frame (lent_at m told bound f i args))
            g callee (map as_argument args))
        by_places bodied false e = Performs.wrong_place g args callee there bodied e

        by_turns : has_any callee.blocks ≡ false → (numbers : List ℤ) → steps.numbers_of m told bound args ≡ Some numbers
            → (b : Bool) → nat_lt s.turns bound ≡ b
            → Performs m told bound s rest frame f i (effects.Calls g args)
            (cond b (steps.goes_on m told bound (record (turned s) { events = s.events ++ event.Call g numbers ∷ [] }) rest frame f i
            (record (unchanged s.memory) { results = ValueOf (value.Group value.NoValue) ∷ [] })) (Ends OutOfTurns s))
        by_turns bare numbers is true e =
            Performs.calls_out g args callee numbers _ there bare is e
            (goes_behind (record (turned s) { events = s.events ++ event.Call g numbers ∷ [] }) rest frame f i
            (record (unchanged s.memory) { results = ValueOf (value.Group value.NoValue) ∷ [] }))
        by_turns bare numbers is false e = Performs.no_turn g args callee numbers there bare is e

        by_numbers : has_any callee.blocks ≡ false → (o : Option (List ℤ)) → steps.numbers_of m told bound args ≡ o
            → Performs m told bound s rest frame f i (effects.Calls g args) (on_some s (steps.calls_out m told bound s rest frame f i g) o)
        by_numbers bare (Some numbers) is = by_turns bare numbers is (nat_lt s.turns bound) refl
        by_numbers bare None is = Performs.no_numbers g args callee there bare is

        by_body : (b : Bool) → has_any callee.blocks ≡ b
            → Performs m told bound s rest frame f i (effects.Calls g args)
            (cond b (steps.lends m told bound s rest frame g callee (lent_at m told bound f i args) args)
            (on_some s (steps.calls_out m told bound s rest frame f i g) (steps.numbers_of m told bound args)))
        by_body true bodied = by_places bodied (are_as_before s.memory (lent_at m told bound f i args)) refl
        by_body false bare = by_numbers bare (steps.numbers_of m told bound args) refl

    performs : (e : effects.Effect HolderFault) → Performs m told bound s rest frame f i e (steps.performs m told bound s rest frame f i e)
    performs (effects.Makes c) = Performs.makes c _ (goes_behind s rest frame f i c)
    performs (effects.Calls g args) = call_performs g args (slice_get m.functions g.0) refl
    performs (effects.Traps t) = Performs.traps t
    performs (effects.Faults x) = Performs.faults x
    performs effects.Unfit = Performs.unfit

  -- ---- returns

  reaches : (s : HolderState) (x : Datum) (rest : List (Task Frame)) → Reaches m told bound s x rest (steps.returns_to m told bound s x rest)
  reaches s x [] = by_value (as_value x) refl
    where
      by_value : (o : Option Value) → as_value x ≡ o → Reaches m told bound s x [] (on_some s (λ v. Ends (Returned v) (record s { tasks = [] })) o)
      by_value (Some v) e = Reaches.ends v e
      by_value None e = Reaches.no_value e
  reaches s x (Runs frame ∷ rest) = by_function (slice_get m.functions frame.function.0) refl
    where
      by_function : (o : Option Function) → slice_get m.functions frame.function.0 ≡ o
          → Reaches m told bound s x (Runs frame ∷ rest) (on_some s (λ f. steps.resumes m told bound s rest frame f x) o)
      by_function (Some f) e =
          Reaches.resumes frame rest f _ e
          (goes_behind s rest frame f (item.Inst (stands_at f frame.trail)) (record (unchanged s.memory) { results = x ∷ [] }))
      by_function None e = Reaches.no_function frame rest e
  reaches s x (Drops os ∷ rest) = Reaches.on_drops os rest
  reaches s x (Finishes deinits o ∷ rest) = Reaches.finishes deinits o rest

  leaves : (s : HolderState) (rest : List (Task Frame)) (frame : Frame) (f : Function) (x : Datum)
      → Leaves m told bound s rest frame f x (steps.leaves m told bound s f frame (steps.returns_to m told bound s x rest))
  leaves s rest frame f x = by_entries (holds_something frame.entries) refl
    where
      by_places : holds_something frame.entries ≡ false → has_any frame.slots ≡ false → (b : Bool) → are_as_after s.memory (places_given f frame.entries) ≡ b
          → Leaves m told bound s rest frame f x (cond b (steps.returns_to m told bound s x rest) (fault s LeavesPlace))
      by_places held slots true e = Leaves.leaves _ held slots e (reaches s x rest)
      by_places held slots false e = Leaves.wrong_place e

      by_slots : holds_something frame.entries ≡ false → (b : Bool) → has_any frame.slots ≡ b
          → Leaves m told bound s rest frame f x (cond b (fault s LeavesSlot)
          (cond (are_as_after s.memory (places_given f frame.entries)) (steps.returns_to m told bound s x rest) (fault s LeavesPlace)))
      by_slots held true e = Leaves.has_slot e
      by_slots held false e = by_places held e (are_as_after s.memory (places_given f frame.entries)) refl

      by_entries : (b : Bool) → holds_something frame.entries ≡ b
          → Leaves m told bound s rest frame f x (cond b (fault s LeavesHeld) (cond (has_any frame.slots) (fault s LeavesSlot)
          (cond (are_as_after s.memory (places_given f frame.entries)) (steps.returns_to m told bound s x rest) (fault s LeavesPlace))))
      by_entries true e = Leaves.holds e
      by_entries false e = by_slots e (has_any frame.slots) refl

  -- ---- a frame goes on

  module _ (s : HolderState) (rest : List (Task Frame)) (frame : Frame) (f : Function) where
    takes_edge : (e : EdgeId) → TakesEdge m told bound s rest frame f e (steps.takes_edge m told bound s rest frame f e)
    takes_edge e = by_operands (operands_in m told bound s frame f (item.Edge e)) refl
      where
        by_turns : (ops : Operands) (carried : List Datum) → operands_in m told bound s frame f (item.Edge e) ≡ Ok ops → carried_along f e ops.given ≡ Some carried
            → (b : Bool) → nat_lt s.turns bound ≡ b
            → TakesEdge m told bound s rest frame f e (cond b (steps.goes_on m told bound (turned s) rest (left_with m told bound frame ops) f (item.Edge e)
            (record (unchanged s.memory) { results = carried })) (Ends OutOfTurns s))
        by_turns ops carried found is true b =
            TakesEdge.takes ops carried _ found is b
            (goes_behind (turned s) rest (left_with m told bound frame ops) f (item.Edge e) (record (unchanged s.memory) { results = carried }))
        by_turns ops carried found is false b = TakesEdge.no_turn ops carried found is b

        by_carried : (ops : Operands) → operands_in m told bound s frame f (item.Edge e) ≡ Ok ops → (o : Option (List Datum)) → carried_along f e ops.given ≡ o
            → TakesEdge m told bound s rest frame f e (on_some s (λ carried. turn bound s (λ s'.
            steps.goes_on m told bound s' rest (left_with m told bound frame ops) f (item.Edge e) (record (unchanged s'.memory) { results = carried }))) o)
        by_carried ops found (Some carried) is = by_turns ops carried found is (nat_lt s.turns bound) refl
        by_carried ops found None is = TakesEdge.not_carried ops found is

        by_operands : (r : Result Operands HolderFault) → operands_in m told bound s frame f (item.Edge e) ≡ r
            → TakesEdge m told bound s rest frame f e (on_ok s (λ ops. on_some s (λ carried. turn bound s (λ s'.
            steps.goes_on m told bound s' rest (left_with m told bound frame ops) f (item.Edge e) (record (unchanged s'.memory) { results = carried })))
            (carried_along f e ops.given)) r)
        by_operands (Ok ops) found = by_carried ops found (carried_along f e ops.given) refl
        by_operands (Err x) found = TakesEdge.wrong_operand x found

    -- the edge that the terminator's operand chooses
    module _ (i : Inst) (choose : Value → Option ℕ) (stands : StandsAtEnd m told bound frame f i) (how : Chooses m told bound frame i choose) where
      abbrev taken : ℕ → HolderNext
      taken k = steps.takes_edge m told bound s rest frame f (edge_of (stands_at f frame.trail) k)

      by_choice : (x : Datum) (v : Value) → IsChosenBy m told bound frame i (Some x) → as_value x ≡ Some v → (o : Option ℕ) → choose v ≡ o
          → Acts m told bound s rest frame f (on_some s taken o)
      by_choice x v is worth (Some k) e = Acts.chooses i choose x v k _ stands how is worth e (takes_edge (edge_of (stands_at f frame.trail) k))
      by_choice x v is worth None e = Acts.no_choice i choose x v stands how is worth e

      by_value : (x : Datum) → IsChosenBy m told bound frame i (Some x) → (o : Option Value) → as_value x ≡ o
          → Acts m told bound s rest frame f (on_some s taken (option_and_then choose o))
      by_value x is (Some v) e = by_choice x v is e (choose v) refl
      by_value x is None e = Acts.no_value i choose x stands how is e

      by_datum : (o : Operand) → slice_get i.operands 0 ≡ Some o → (x : Option Datum) → datum_in (entry_at frame.entries o.value) ≡ x
          → Acts m told bound s rest frame f (chosen_edge s choose taken x)
      by_datum o first (Some x) e = by_value x (record { operand = o; first = first; is = e }) (as_value x) refl
      by_datum o first None e = Acts.no_entry i choose stands how (record { operand = o; first = first; is = e })

      by_operand : (o : Option Operand) → slice_get i.operands 0 ≡ o
          → Acts m told bound s rest frame f (chosen_by s choose taken (option_map (λ o. entry_at frame.entries o.value) o))
      by_operand (Some o) e = by_datum o e (datum_in (entry_at frame.entries o.value)) refl
      by_operand None e = Acts.no_operand i choose stands how e

      chosen : Acts m told bound s rest frame f (with_chosen s frame i choose taken)
      chosen = by_operand (slice_get i.operands 0) refl

    module _ (i : Inst) (stands : StandsAtEnd m told bound frame f i) where
      returns : ending_of i.op ≡ ending.Return → Acts m told bound s rest frame f (steps.returns m told bound s rest frame f (stands_at f frame.trail))
      returns is = by_operands (operands_in m told bound s frame f (item.Exit (stands_at f frame.trail))) refl
        where
          by_returned : (ops : Operands) → operands_in m told bound s frame f (item.Exit (stands_at f frame.trail)) ≡ Ok ops → (o : Option Datum) → only ops.given ≡ o
              → Acts m told bound s rest frame f
              (on_some s (λ x. steps.leaves m told bound s f (left_with m told bound frame ops) (steps.returns_to m told bound s x rest)) o)
          by_returned ops found (Some x) e = Acts.returns i ops x _ stands is found e (leaves s rest (left_with m told bound frame ops) f x)
          by_returned ops found None e = Acts.not_one_returned i ops stands is found e

          by_operands : (r : Result Operands HolderFault) → operands_in m told bound s frame f (item.Exit (stands_at f frame.trail)) ≡ r
              → Acts m told bound s rest frame f (on_ok s (λ ops. on_some s (λ x.
              steps.leaves m told bound s f (left_with m told bound frame ops) (steps.returns_to m told bound s x rest)) (only ops.given)) r)
          by_operands (Ok ops) found = by_returned ops found (only ops.given) refl
          by_operands (Err x) found = Acts.wrong_returned i x stands is found

      ends_block : (e : Ending) → ending_of i.op ≡ e
          → Acts m told bound s rest frame f (steps.ends_block_by m told bound e s rest frame f (stands_at f frame.trail) i)
      ends_block ending.Inside is = Acts.no_ending i stands is
      ends_block ending.OneBranch is = Acts.branches i _ stands is (takes_edge (edge_of (stands_at f frame.trail) 0))
      ends_block ending.TwoBranches is = chosen i branch_of stands (Chooses.by_bit is)
      ends_block ending.Cases is = chosen i (steps.switch_edge m told bound frame i) stands (Chooses.by_case is)
      ends_block ending.Return is = returns is
      ends_block ending.Unreachable is = Acts.unreachable i stands is

    acts : (o : Option Inst) → inst_at f (stands_at f frame.trail) ≡ o
        → Acts m told bound s rest frame f (steps.acts m told bound s rest frame f (stands_at f frame.trail) o)
    acts (Some i) here = by_operands (operands_in m told bound s frame f (item.Inst (stands_at f frame.trail))) refl
      where
        by_operands : (r : Result Operands HolderFault) → operands_in m told bound s frame f (item.Inst (stands_at f frame.trail)) ≡ r
            → Acts m told bound s rest frame f (on_ok s (λ ops. steps.performs m told bound s rest (left_with m told bound frame ops) f
            (item.Inst (stands_at f frame.trail)) (steps.effect_in m told bound s frame i ops.given)) r)
        by_operands (Ok ops) found =
            Acts.does i ops _ here found
            (performs s rest (left_with m told bound frame ops) f (item.Inst (stands_at f frame.trail)) (steps.effect_in m told bound s frame i ops.given))
        by_operands (Err x) found = Acts.wrong_operand i x here found
    acts None here = by_terminator (terminator_of f (stands_at f frame.trail).block.0) refl
      where
        by_terminator : (o : Option Inst) → terminator_of f (stands_at f frame.trail).block.0 ≡ o
            → Acts m told bound s rest frame f (on_some s (steps.ends_block m told bound s rest frame f (stands_at f frame.trail)) o)
        by_terminator (Some i) e = ends_block i (record { behind = here; terminator = e }) (ending_of i.op) refl
        by_terminator None e = Acts.no_terminator here e

  -- ---- drops and finishes

  drops_one : (s : HolderState) (o : ObjectId) → DropsOne m told bound s o (steps.drops m told bound s o)
  drops_one s o = by_holders (strong_holders s o) refl
    where
      by_turns : strong_holders s o ≡ 0 → is_live s.memory o ≡ true → (b : Bool) → nat_lt s.turns bound ≡ b
          → DropsOne m told bound s o (cond b (Goes (deinitialising m told bound s o)) (Ends OutOfTurns s))
      by_turns none live true e = DropsOne.deinitialises none live e
      by_turns none live false e = DropsOne.no_turn none live e

      by_phase : strong_holders s o ≡ 0 → (b : Bool) → is_live s.memory o ≡ b
          → DropsOne m told bound s o (cond b (deinitialises (declarations_of m) bound s o) (Goes s))
      by_phase none true e = by_turns none e (nat_lt s.turns bound) refl
      by_phase none false e = DropsOne.not_live none e

      by_holders : (n : ℕ) → strong_holders s o ≡ n → DropsOne m told bound s o (drop_with (declarations_of m) bound s o n)
      by_holders zero e = by_phase e (is_live s.memory o) refl
      by_holders (suc left) e = DropsOne.held_still left e

  finishes_one : (s : HolderState) (o : ObjectId) → FinishesOne m told bound s o (finish_with s o (strong_holders s o))
  finishes_one s o = by_holders (strong_holders s o) refl
    where
      by_holders : (n : ℕ) → strong_holders s o ≡ n → FinishesOne m told bound s o (finish_with s o n)
      by_holders zero e = FinishesOne.finishes e
      by_holders (suc left) e = FinishesOne.escapes left e

  -- a finish that waits holds nothing
  same_holders : (s : HolderState) (o : ObjectId) (rest : List (Task Frame)) → s.tasks ≡ Finishes [] o ∷ rest → strong_holders s o ≡ strong_holders (record s { tasks = rest }) o
  same_holders s o rest is =
      ap (λ tasks. sum (map (in_task (one_object o)) tasks) + in_memory (one_object o) storage.Strong s.memory) is
      ∙ ap (λ n. n + in_memory (one_object o) storage.Strong s.memory) (omega arith)

  -- ---- a step

  by_tasks : (s : HolderState) (tasks : List (Task Frame)) → s.tasks ≡ tasks → StepsBy m told bound s (steps.task_step m told bound s tasks)
  by_tasks s [] is = StepsBy.no_task is
  by_tasks s (Runs frame ∷ rest) is = by_function (slice_get m.functions frame.function.0) refl
    where
      by_function : (o : Option Function) → slice_get m.functions frame.function.0 ≡ o
          → StepsBy m told bound s (on_some s (λ f. steps.acts m told bound s rest frame f (stands_at f frame.trail) (inst_at f (stands_at f frame.trail))) o)
      by_function (Some f) e = StepsBy.runs frame rest f _ is e (acts s rest frame f (inst_at f (stands_at f frame.trail)) refl)
      by_function None e = StepsBy.no_function frame rest is e
  by_tasks s (Drops [] ∷ rest) is = StepsBy.dropped rest is
  by_tasks s (Drops (o ∷ os) ∷ rest) is = StepsBy.drops o os rest _ is (drops_one (record s { tasks = Drops os ∷ rest; releases = s.releases + 1 }) o)
  by_tasks s (Finishes [] o ∷ rest) is =
      StepsBy.finishes o rest _ is
      (subst (λ n. FinishesOne m told bound (record s { tasks = rest }) o (finish_with (record s { tasks = rest }) o n)) (sym (same_holders s o rest is))
      (finishes_one (record s { tasks = rest }) o))
  by_tasks s (Finishes (g ∷ gs) o ∷ rest) is = by_function (slice_get m.functions g.0) refl
    where
      by_function : (x : Option Function) → slice_get m.functions g.0 ≡ x
          → StepsBy m told bound s (on_some (record s { tasks = Finishes gs o ∷ rest })
          (λ f. steps.calls_in m told bound (record s { tasks = Finishes gs o ∷ rest }) (Finishes gs o ∷ rest) g f (ValueOf (value.Object o) ∷ [])) x)
      by_function (Some f) e =
          StepsBy.calls_deinit g gs o rest f _ is e (enters (record s { tasks = Finishes gs o ∷ rest }) (Finishes gs o ∷ rest) g f (ValueOf (value.Object o) ∷ []))
      by_function None e = StepsBy.no_deinit g gs o rest is e

pub steps_told : AreStepsTold
steps_told m told bound s = by_tasks m told bound s s.tasks refl
