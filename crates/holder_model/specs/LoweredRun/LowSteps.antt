-- The steps of a run of lowered code, by stored numbers.
use Rattle.std.specs.Prelude.{ℕ, zero, suc, ℤ, ◌+◌, List, [], ◌∷◌, ◌++◌, cond, map, Option, Some, None}
use Rattle.std.specs.Prelude.{◌==◌, find, slice_get, option_and_then}
use Rattle.instruction_table.specs.Forms.{ending_of}
use Rattle.instruction_table.specs.declared.entries.Ending as table
use Rattle.instruction_table.specs.declared.entries.Ending.TheVariants as ending
use Rattle.sil_ast.specs.declared.function.Function.{Function}
use Rattle.sil_ast.specs.declared.inst.Inst as inst
use Rattle.sil_ast.specs.declared.module.Module.{Module}
use Rattle.sil_ast.specs.declared.operands.Operand.{Operand}
use Rattle.sil_ast.specs.declared.place.EdgeId.{EdgeId}
use Rattle.sil_ast.specs.declared.place.FuncId.{FuncId}
use Rattle.sil_ast.specs.declared.place.ObjectId.{ObjectId}
use Rattle.sil_ast.specs.declared.place.ValueId.{ValueId}
use Rattle.memory_rules_accesses.specs.sil_cfg.declared.item.Item.{Item}
use Rattle.memory_rules_accesses.specs.sil_cfg.declared.item.Item.TheVariants as item
use Rattle.memory_rules_accesses.specs.sil_cfg_items.Items.{item_defined}
use Rattle.memory_rules_accesses.specs.sil_cfg_items.Parts.{inst_at, terminator_of}
use Rattle.holder_model_values.specs.sil_types_declarations.TypeDefinitions.Declarations.{Declarations, declarations_of}
use Rattle.holder_model_values.specs.RunValues.Memory.{is_dead, object_at}
use Rattle.holder_model_values.specs.RunValues.Shapes.{Shape}
use Rattle.holder_model_values.specs.RunValues.Values as value
use Rattle.holder_model_values.specs.RunValues.Values.{Value, integer_of, references_of}
use Rattle.holder_model.specs.declared.event.Event.TheVariants as event
use Rattle.holder_model.specs.declared.trap.Trap.TheVariants as trap
use Rattle.holder_model.specs.Calling.{value_count}
use Rattle.holder_model.specs.Data.{Datum, ValueOf, all_of, as_value, values_of}
use Rattle.holder_model.specs.Dropping.{drop_with, finish_with}
use Rattle.holder_model.specs.Edges.{branch_of, carried_along, case_edge, edge_of}
use Rattle.holder_model.specs.Effects as effects
use Rattle.holder_model.specs.Effects.{Change, Effect, only, unchanged}
use Rattle.holder_model.specs.Frames.{has_any}
use Rattle.holder_model.specs.ModuleShapes.{ModuleShapes, shapes_in}
use Rattle.holder_model.specs.StepParts.{switched_shape}
use Rattle.holder_model.specs.Standing.{behind}
use Rattle.holder_model.specs.States.{Drops, Ends, Finishes, Goes, Returned, Runs, Task, Trapped, dropping, enter, turn}
use Rattle.holder_model.specs.declared.lowered_run.low_fault.LowFault.{LowFault}
use Rattle.holder_model.specs.declared.lowered_run.low_fault.LowFault.TheVariants as fault
use Rattle.holder_model.specs.LoweredRun.LowEffects.{low_effect, stored_behind}
use Rattle.holder_model.specs.LoweredRun.LowFrames.{LowFrame, no_values, put_all, read_all}
use Rattle.holder_model.specs.LoweredRun.LowStepParts.{LowState, LowNext, fails, misfits, on_ok, on_some, slots_behind, values_taken, retains_each, numbers_for}
use Rattle.holder_model.specs.LoweredRun.LowStepParts.{new_frame}
use Rattle.holder_model.specs.LoweredRun.Stored.{changed, numbers_of, one_less, unnamed}

module _ (m : Module) (told : ModuleShapes) (bound : ℕ) where
  abbrev pub declared : Declarations
  declared = declarations_of m

  abbrev pub shapes : FuncId → List Shape
  shapes g = shapes_in told g

  -- control goes on at a point behind the item
  abbrev pub goes_on : LowState → List (Task LowFrame) → LowFrame → Function → Item → Change → LowNext
  goes_on s rest frame f i c =
      on_ok s (λ slots. on_some s (λ values. retains_each c.retained s (λ s'. Goes (record s' {
        tasks = dropping c.dropped (Runs (record frame { at = behind f i; values = values; slots = slots }) ∷ rest);
        memory = c.memory;
        numbers = numbers_for c.memory s'.numbers;
      }))) (put_all (item_defined f i) c.results frame.values)) (slots_behind c.slots frame.slots)

  abbrev pub calls_out : LowState → List (Task LowFrame) → LowFrame → Function → Item → FuncId → List ℤ → LowNext
  calls_out s rest frame f i g numbers =
      turn bound s (λ s'. goes_on (record s' { events = s'.events ++ event.Call g numbers ∷ [] }) rest frame f i
      (record (unchanged s'.memory) { results = ValueOf (value.Group value.NoValue) ∷ [] }))

  abbrev pub calls_in : LowState → List (Task LowFrame) → FuncId → Function → List Datum → LowNext
  calls_in s rest g f args =
      on_some s (λ values. enter bound rest s (λ s'. Goes (record s' { tasks = Runs (new_frame g values) ∷ rest })))
      (put_all (item_defined f item.Entry) args (no_values (value_count f)))

  abbrev pub call_numbers : List Datum → Option (List ℤ)
  call_numbers args = option_and_then (all_of integer_of) (values_of args)

  abbrev pub calls : LowState → List (Task LowFrame) → LowFrame → Function → Item → FuncId → List Datum → Function → LowNext
  calls s rest frame f i g args callee =
      cond (has_any callee.blocks) (calls_in s (Runs frame ∷ rest) g callee args) (on_some s (calls_out s rest frame f i g) (call_numbers args))

  abbrev pub performs : LowState → List (Task LowFrame) → LowFrame → Function → Item → Effect LowFault → LowNext
  performs s rest frame f i (effects.Makes c) = goes_on s rest frame f i c
  performs s rest frame f i (effects.Calls g args) = on_some s (calls s rest frame f i g args) (slice_get m.functions g.0)
  performs s rest frame f i (effects.Traps t) = Ends (Trapped t) s
  performs s rest frame f i (effects.Faults x) = fails s x
  performs s rest frame f i effects.Unfit = misfits s

  -- the state with the numbers of the objects that storage names behind the instruction
  abbrev pub with_names : LowState → LowFrame → inst.Inst → List Datum → LowState
  with_names s frame i xs = record s { numbers = stored_behind declared told (shapes frame.function) s.memory i xs s.numbers }

  abbrev pub does : LowState → List (Task LowFrame) → LowFrame → Function → inst.Inst → LowNext
  does s rest frame f i =
      on_ok s (λ xs. performs (with_names s frame i xs) rest frame f (item.Inst frame.at)
      (low_effect declared told (shapes frame.function) s.memory i xs)) (read_all frame.values (values_taken f (item.Inst frame.at)))

  abbrev pub takes_edge : LowState → List (Task LowFrame) → LowFrame → Function → EdgeId → LowNext
  takes_edge s rest frame f e =
      on_ok s (λ xs. on_some s (λ carried. turn bound s (λ s'. goes_on s' rest frame f (item.Edge e) (record (unchanged s'.memory) { results = carried })))
      (carried_along f e xs)) (read_all frame.values (values_taken f (item.Edge e)))

  -- what the run returns names no dead object
  abbrev pub leaves_run : LowState → Value → Option ObjectId → LowNext
  leaves_run s x None = Ends (Returned x) (record s { tasks = [] })
  leaves_run s x (Some o) = fails s (fault.Dead o)

  abbrev pub returns_to : LowState → Datum → List (Task LowFrame) → LowNext
  returns_to s x [] = on_some s (λ v. leaves_run s v (find (is_dead s.memory) (references_of v))) (as_value x)
  returns_to s x (Runs frame ∷ rest) =
      on_some s (λ f. goes_on s rest frame f (item.Inst frame.at) (record (unchanged s.memory) { results = x ∷ [] })) (slice_get m.functions frame.function.0)
  returns_to s x (Drops references ∷ rest) = misfits s
  returns_to s x (Finishes deinits o ∷ rest) = Goes (record s { tasks = Finishes deinits o ∷ rest })

  abbrev pub returns : LowState → List (Task LowFrame) → LowFrame → Function → LowNext
  returns s rest frame f =
      on_ok s (λ xs. cond (has_any frame.slots) (fails s fault.Slot) (on_some s (λ x. returns_to s x rest) (only xs)))
      (read_all frame.values (values_taken f (item.Exit frame.at)))

  abbrev pub chosen_edge : LowState → (Value → Option ℕ) → (ℕ → LowNext) → List Datum → LowNext
  chosen_edge s choose go xs = on_some s go (option_and_then choose (option_and_then as_value (only xs)))

  abbrev pub operand_value : Operand → ValueId
  operand_value o = o.value

  -- the edge that the terminator's operand chooses
  abbrev pub with_chosen : LowState → LowFrame → inst.Inst → (Value → Option ℕ) → (ℕ → LowNext) → LowNext
  with_chosen s frame i choose go = on_ok s (chosen_edge s choose go) (read_all frame.values (map operand_value i.operands))

  abbrev pub switch_edge : LowFrame → inst.Inst → Value → Option ℕ
  switch_edge frame i x = case_edge (switched_shape (shapes frame.function) i) i.edges x

  abbrev pub ends_block_by : table.Ending → LowState → List (Task LowFrame) → LowFrame → Function → inst.Inst → LowNext
  ends_block_by ending.Inside s rest frame f i = misfits s
  ends_block_by ending.OneBranch s rest frame f i = takes_edge s rest frame f (edge_of frame.at 0)
  ends_block_by ending.TwoBranches s rest frame f i = with_chosen s frame i branch_of (λ k. takes_edge s rest frame f (edge_of frame.at k))
  ends_block_by ending.Cases s rest frame f i = with_chosen s frame i (switch_edge frame i) (λ k. takes_edge s rest frame f (edge_of frame.at k))
  ends_block_by ending.Return s rest frame f i = returns s rest frame f
  ends_block_by ending.Unreachable s rest frame f i = Ends (Trapped trap.Unreachable) s

  abbrev pub acts : LowState → List (Task LowFrame) → LowFrame → Function → Option inst.Inst → LowNext
  acts s rest frame f (Some i) = does s rest frame f i
  acts s rest frame f None = on_some s (λ i. ends_block_by (ending_of i.op) s rest frame f i) (terminator_of f frame.at.block.0)

  abbrev pub runs : LowState → List (Task LowFrame) → LowFrame → LowNext
  runs s rest frame = on_some s (λ f. acts s rest frame f (inst_at f frame.at)) (slice_get m.functions frame.function.0)

  -- the stored number falls by one, and where it falls to 0 a live object starts to deinitialise
  abbrev pub releases_with : LowState → ObjectId → ℕ → LowNext
  releases_with s o zero = fails s (fault.Underflow o 0)
  releases_with s o (suc left) =
      drop_with declared bound (record s { numbers = changed one_less s.numbers o; releases = s.releases + 1 }) o left

  abbrev pub releases_one : LowState → ObjectId → LowNext
  releases_one s o = cond (is_dead s.memory o) (fails s (fault.Dead o)) (releases_with s o (numbers_of s.numbers o).strong)

  -- the object's weak and unowned fields cease
  abbrev pub finishes : LowState → ObjectId → LowNext
  finishes s o =
      finish_with (record s { numbers = unnamed (object_at s.memory o).cells s.numbers }) o (numbers_of s.numbers o).strong

  abbrev pub deinit_called : LowState → FuncId → ObjectId → LowNext
  deinit_called s g o = on_some s (λ f. calls_in s s.tasks g f (ValueOf (value.Object o) ∷ [])) (slice_get m.functions g.0)

  abbrev pub task_step : LowState → List (Task LowFrame) → LowNext
  task_step s [] = misfits s
  task_step s (Runs frame ∷ rest) = runs s rest frame
  task_step s (Drops [] ∷ rest) = Goes (record s { tasks = rest })
  task_step s (Drops (o ∷ os) ∷ rest) = releases_one (record s { tasks = Drops os ∷ rest }) o
  task_step s (Finishes [] o ∷ rest) = finishes (record s { tasks = rest }) o
  task_step s (Finishes (g ∷ gs) o ∷ rest) = deinit_called (record s { tasks = Finishes gs o ∷ rest }) g o

  abbrev pub low_step : LowState → LowNext
  low_step s = task_step s s.tasks
