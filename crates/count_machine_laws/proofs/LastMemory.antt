-- A step that ends the run of lowered code leaves its memory as it is.
use Rattle.std.proofs.Common.{◌≡◌, ◌+◌, ℕ, zero, suc, ℤ, List, [], ◌∷◌, ◌++◌, Bool, true, false, cond, Option, Some, None, Ok, Err, refl, nat_lt}
use Rattle.std.specs.Prelude.{find, option_and_then, slice_get}
use Rattle.std.specs.declared.result.Result.{Result}
use Rattle.count_machine_model.specs.holder_model.Calling.{value_count}
use Rattle.count_machine_model.specs.holder_model.Data.{Datum, ValueOf, as_value}
use Rattle.count_machine_model.specs.holder_model.Dropping.{drop_with, finish_with}
use Rattle.count_machine_model.specs.holder_model.Edges.{branch_of, carried_along, edge_of}
use Rattle.count_machine_model.specs.holder_model.Effects as effects
use Rattle.count_machine_model.specs.holder_model.Effects.{Change, Effect, only, unchanged}
use Rattle.count_machine_model.specs.holder_model.Frames.{has_any}
use Rattle.count_machine_model.specs.holder_model.ModuleShapes.{ModuleShapes, shapes_in}
use Rattle.count_machine_model.specs.holder_model.States.{Drops, Ends, Finishes, Goes, Runs, Task, enter, frame_count, turn}
use Rattle.count_machine_model.specs.holder_model.declared.event.Event.TheVariants as event
use Rattle.count_machine_model.specs.holder_model.declared.limits.TheConstants.{FRAMES}
use Rattle.count_machine_model.specs.holder_model.declared.lowered_run.low_fault.LowFault.{LowFault}
use Rattle.count_machine_model.specs.holder_model.LoweredRun.LowEffects.{low_effect}
use Rattle.count_machine_model.specs.holder_model.LoweredRun.LowFrames.{LowFrame, no_values, put_all, read_all}
use Rattle.count_machine_model.specs.holder_model.LoweredRun.LowStepParts.{LowNext, LowState, new_frame, on_ok, on_some, retains_each, slots_behind, values_taken}
use Rattle.count_machine_model.specs.holder_model.LoweredRun.LowSteps as steps
use Rattle.count_machine_model.specs.holder_model.LoweredRun.Stored.{changed, numbers_of, one_less, one_more, unnamed}
use Rattle.instruction_table.specs.Forms.{ending_of}
use Rattle.instruction_table.specs.declared.entries.Ending as table
use Rattle.instruction_table.specs.declared.entries.Ending.TheVariants as ending
use Rattle.holder_model_values.specs.RunValues.Memory.{Memory, is_dead, is_live, object_at}
use Rattle.holder_model_values.specs.RunValues.Values.{Value, references_of}
use Rattle.holder_model_values.specs.RunValues.Values as value
use Rattle.sil_ast.specs.declared.function.Function.{Function}
use Rattle.sil_ast.specs.declared.inst.Inst.{Inst}
use Rattle.sil_ast.specs.declared.module.Module.{Module}
use Rattle.sil_ast.specs.declared.place.EdgeId.{EdgeId}
use Rattle.sil_ast.specs.declared.place.FuncId.{FuncId}
use Rattle.sil_ast.specs.declared.place.ObjectId.{ObjectId}
use Rattle.sil_cfg.specs.declared.item.Item.{Item}
use Rattle.sil_cfg.specs.declared.item.Item.TheVariants as item
use Rattle.sil_cfg_items.specs.Items.{item_defined}
use Rattle.sil_cfg_items.specs.Parts.{inst_at, terminator_of}
use Rattle.sil_types_declarations.specs.TypeDefinitions.Declarations.{declarations_of}

-- where the run ends, its memory is this one
abbrev pub KeepsMemory : Memory → LowNext → Type 0
KeepsMemory mem (Goes s) = Unit {0}
KeepsMemory mem (Ends e s) = s.memory ≡ mem

keeps_cond : (mem : Memory) (b : Bool) (n n' : LowNext) → KeepsMemory mem n → KeepsMemory mem n' → KeepsMemory mem (cond b n n')
keeps_cond mem true n n' set clear = set
keeps_cond mem false n n' set clear = clear

keeps_ok : {A : Type 0} (s : LowState) (go : A → LowNext) (r : Result A LowFault) → ((x : A) → KeepsMemory s.memory (go x)) → KeepsMemory s.memory (on_ok s go r)
keeps_ok s go (Ok x) keeps = keeps x
keeps_ok s go (Err x) keeps = refl

keeps_some : {A : Type 0} (s : LowState) (go : A → LowNext) (r : Option A) → ((x : A) → KeepsMemory s.memory (go x)) → KeepsMemory s.memory (on_some s go r)
keeps_some s go None keeps = refl
keeps_some s go (Some x) keeps = keeps x

keeps_turn : (bound : ℕ) (s : LowState) (go : LowState → LowNext) → KeepsMemory s.memory (go (record s { turns = s.turns + 1 })) → KeepsMemory s.memory (turn bound s go)
keeps_turn bound s go keeps = keeps_cond s.memory (nat_lt s.turns bound) _ _ keeps refl

keeps_enter : (bound : ℕ) (tasks : List (Task LowFrame)) (s : LowState) (go : LowState → LowNext) → KeepsMemory s.memory (go (record s { turns = s.turns + 1 }))
    → KeepsMemory s.memory (enter bound tasks s go)
keeps_enter bound tasks s go keeps = keeps_cond s.memory (nat_lt (frame_count tasks) FRAMES) _ _ (keeps_turn bound s go keeps) refl

keeps_retains : (os : List ObjectId) (s : LowState) (go : LowState → LowNext) → ((s' : LowState) → s'.memory ≡ s.memory → KeepsMemory s.memory (go s'))
    → KeepsMemory s.memory (retains_each os s go)
keeps_retains [] s go keeps = keeps s refl
keeps_retains (o ∷ os) s go keeps =
    keeps_cond s.memory (is_dead s.memory o) _ _ refl (keeps_retains os (record s { numbers = changed one_more s.numbers o; retains = s.retains + 1 }) go keeps)

module _ (m : Module) (told : ModuleShapes) (bound : ℕ) where
  goes_on : (s : LowState) (rest : List (Task LowFrame)) (frame : LowFrame) (f : Function) (i : Item) (c : Change) → KeepsMemory s.memory (steps.goes_on m told bound s rest frame f i c)
  goes_on s rest frame f i c =
      keeps_ok s _ (slots_behind c.slots frame.slots)
      (λ slots. keeps_some s _ (put_all (item_defined f i) c.results frame.values) (λ values. keeps_retains c.retained s _ (λ s' same. tt)))

  calls_out : (s : LowState) (rest : List (Task LowFrame)) (frame : LowFrame) (f : Function) (i : Item) (g : FuncId) (numbers : List ℤ)
      → KeepsMemory s.memory (steps.calls_out m told bound s rest frame f i g numbers)
  calls_out s rest frame f i g numbers =
      keeps_turn bound s (λ s'. steps.goes_on m told bound (record s' { events = s'.events ++ event.Call g numbers ∷ [] }) rest frame f i
      (record (unchanged s'.memory) { results = ValueOf (value.Group value.NoValue) ∷ [] }))
      (goes_on (record s { turns = s.turns + 1; events = s.events ++ event.Call g numbers ∷ [] }) rest frame f i
      (record (unchanged s.memory) { results = ValueOf (value.Group value.NoValue) ∷ [] }))

  calls_in : (s : LowState) (rest : List (Task LowFrame)) (g : FuncId) (f : Function) (args : List Datum) → KeepsMemory s.memory (steps.calls_in m told bound s rest g f args)
  calls_in s rest g f args =
      keeps_some s _ (put_all (item_defined f item.Entry) args (no_values (value_count f)))
      (λ values. keeps_enter bound rest s (λ s'. Goes (record s' { tasks = Runs (new_frame g values) ∷ rest })) tt)

  calls : (s : LowState) (rest : List (Task LowFrame)) (frame : LowFrame) (f : Function) (i : Item) (g : FuncId) (args : List Datum) (callee : Function)
      → KeepsMemory s.memory (steps.calls m told bound s rest frame f i g args callee)
  calls s rest frame f i g args callee =
      keeps_cond s.memory (has_any callee.blocks) _ _ (calls_in s (Runs frame ∷ rest) g callee args)
      (keeps_some s _ (steps.call_numbers m told bound args) (λ numbers. calls_out s rest frame f i g numbers))

  performs : (s : LowState) (rest : List (Task LowFrame)) (frame : LowFrame) (f : Function) (i : Item) (e : Effect LowFault)
      → KeepsMemory s.memory (steps.performs m told bound s rest frame f i e)
  performs s rest frame f i (effects.Makes c) = goes_on s rest frame f i c
  performs s rest frame f i (effects.Calls g args) = keeps_some s _ (slice_get m.functions g.0) (λ callee. calls s rest frame f i g args callee)
  performs s rest frame f i (effects.Traps t) = refl
  performs s rest frame f i (effects.Faults x) = refl
  performs s rest frame f i effects.Unfit = refl

  does : (s : LowState) (rest : List (Task LowFrame)) (frame : LowFrame) (f : Function) (i : Inst) → KeepsMemory s.memory (steps.does m told bound s rest frame f i)
  does s rest frame f i =
      keeps_ok s _ (read_all frame.values (values_taken f (item.Inst frame.at)))
      (λ xs. performs (steps.with_names m told bound s frame i xs) rest frame f (item.Inst frame.at) (low_effect (declarations_of m) told (shapes_in told frame.function) s.memory i xs))

  takes_edge : (s : LowState) (rest : List (Task LowFrame)) (frame : LowFrame) (f : Function) (e : EdgeId) → KeepsMemory s.memory (steps.takes_edge m told bound s rest frame f e)
  takes_edge s rest frame f e =
      keeps_ok s _ (read_all frame.values (values_taken f (item.Edge e)))
      (λ xs. keeps_some s _ (carried_along f e xs)
      (λ carried. keeps_turn bound s (λ s'. steps.goes_on m told bound s' rest frame f (item.Edge e) (record (unchanged s'.memory) { results = carried }))
      (goes_on (record s { turns = s.turns + 1 }) rest frame f (item.Edge e) (record (unchanged s.memory) { results = carried }))))

  leaves_run : (s : LowState) (x : Value) (o : Option ObjectId) → KeepsMemory s.memory (steps.leaves_run m told bound s x o)
  leaves_run s x None = refl
  leaves_run s x (Some o) = refl

  returns_to : (s : LowState) (x : Datum) (tasks : List (Task LowFrame)) → KeepsMemory s.memory (steps.returns_to m told bound s x tasks)
  returns_to s x [] = keeps_some s _ (as_value x) (λ v. leaves_run s v (find (is_dead s.memory) (references_of v)))
  returns_to s x (Runs frame ∷ rest) = keeps_some s _ (slice_get m.functions frame.function.0)
      (λ f. goes_on s rest frame f (item.Inst frame.at) (record (unchanged s.memory) { results = x ∷ [] }))
  returns_to s x (Drops references ∷ rest) = refl
  returns_to s x (Finishes deinits o ∷ rest) = tt

  returns : (s : LowState) (rest : List (Task LowFrame)) (frame : LowFrame) (f : Function) → KeepsMemory s.memory (steps.returns m told bound s rest frame f)
  returns s rest frame f =
      keeps_ok s _ (read_all frame.values (values_taken f (item.Exit frame.at)))
      (λ xs. keeps_cond s.memory (has_any frame.slots) _ _ refl (keeps_some s _ (only xs) (λ x. returns_to s x rest)))

  with_chosen : (s : LowState) (frame : LowFrame) (i : Inst) (choose : Value → Option ℕ) (go : ℕ → LowNext) → ((k : ℕ) → KeepsMemory s.memory (go k))
      → KeepsMemory s.memory (steps.with_chosen m told bound s frame i choose go)
  with_chosen s frame i choose go keeps =
      keeps_ok s _ _ (λ xs. keeps_some s go (option_and_then choose (option_and_then as_value (only xs))) keeps)

  ends_block_by : (e : table.Ending) (s : LowState) (rest : List (Task LowFrame)) (frame : LowFrame) (f : Function) (i : Inst)
      → KeepsMemory s.memory (steps.ends_block_by m told bound e s rest frame f i)
  ends_block_by ending.Inside s rest frame f i = refl
  ends_block_by ending.OneBranch s rest frame f i = takes_edge s rest frame f (edge_of frame.at 0)
  ends_block_by ending.TwoBranches s rest frame f i =
      with_chosen s frame i branch_of (λ k. steps.takes_edge m told bound s rest frame f (edge_of frame.at k)) (λ k. takes_edge s rest frame f (edge_of frame.at k))
  ends_block_by ending.Cases s rest frame f i =
      with_chosen s frame i (steps.switch_edge m told bound frame i) (λ k. steps.takes_edge m told bound s rest frame f (edge_of frame.at k))
      (λ k. takes_edge s rest frame f (edge_of frame.at k))
  ends_block_by ending.Return s rest frame f i = returns s rest frame f
  ends_block_by ending.Unreachable s rest frame f i = refl

  acts : (s : LowState) (rest : List (Task LowFrame)) (frame : LowFrame) (f : Function) (i : Option Inst) → KeepsMemory s.memory (steps.acts m told bound s rest frame f i)
  acts s rest frame f (Some i) = does s rest frame f i
  acts s rest frame f None =
      keeps_some s _ (terminator_of f frame.at.block.0) (λ i. ends_block_by (ending_of i.op) s rest frame f i)

  runs : (s : LowState) (rest : List (Task LowFrame)) (frame : LowFrame) → KeepsMemory s.memory (steps.runs m told bound s rest frame)
  runs s rest frame = keeps_some s _ (slice_get m.functions frame.function.0) (λ f. acts s rest frame f (inst_at f frame.at))

  -- drops and deinitialisations

  dropped : (s : LowState) (o : ObjectId) (left : ℕ) → KeepsMemory s.memory (drop_with (declarations_of m) bound s o left)
  dropped s o zero = keeps_cond s.memory (is_live s.memory o) _ _ (keeps_cond s.memory (nat_lt s.turns bound) _ _ tt refl) tt
  dropped s o (suc left) = tt

  releases_with : (s : LowState) (o : ObjectId) (count : ℕ) → KeepsMemory s.memory (steps.releases_with m told bound s o count)
  releases_with s o zero = refl
  releases_with s o (suc left) = dropped (record s { numbers = changed one_less s.numbers o; releases = s.releases + 1 }) o left

  releases_one : (s : LowState) (o : ObjectId) → KeepsMemory s.memory (steps.releases_one m told bound s o)
  releases_one s o = keeps_cond s.memory (is_dead s.memory o) _ _ refl (releases_with s o (numbers_of s.numbers o).strong)

  finished : (s : LowState) (o : ObjectId) (count : ℕ) → KeepsMemory s.memory (finish_with s o count)
  finished s o zero = tt
  finished s o (suc left) = refl

  task_step : (s : LowState) (tasks : List (Task LowFrame)) → KeepsMemory s.memory (steps.task_step m told bound s tasks)
  task_step s [] = refl
  task_step s (Runs frame ∷ rest) = runs s rest frame
  task_step s (Drops [] ∷ rest) = tt
  task_step s (Drops (o ∷ os) ∷ rest) = releases_one (record s { tasks = Drops os ∷ rest }) o
  task_step s (Finishes [] o ∷ rest) =
      finished (record s { tasks = rest; numbers = unnamed (object_at s.memory o).cells s.numbers }) o (numbers_of s.numbers o).strong
  task_step s (Finishes (g ∷ gs) o ∷ rest) =
      keeps_some (record s { tasks = Finishes gs o ∷ rest }) _ (slice_get m.functions g.0)
      (λ f. calls_in (record s { tasks = Finishes gs o ∷ rest }) (Finishes gs o ∷ rest) g f (ValueOf (value.Object o) ∷ []))

  -- whichever step it is
  pub steps_keep : (s : LowState) → KeepsMemory s.memory (steps.low_step m told bound s)
  steps_keep s = task_step s s.tasks
