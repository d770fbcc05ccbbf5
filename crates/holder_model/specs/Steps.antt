-- The steps of a run by holders: one drop, one call of a waiting deinitialiser, one finish, or one item.
use Rattle.std.specs.Prelude.{ℕ, ℤ, ◌+◌, List, [], ◌∷◌, ◌++◌, cond, length, map, Option, Some, None, slice_get, option_and_then, drop}
use Rattle.instruction_table.specs.Forms.{ending_of}
use Rattle.instruction_table.specs.declared.entries.Ending as table
use Rattle.instruction_table.specs.declared.entries.Ending.TheVariants as ending
use Rattle.sil_ast.specs.declared.function.Function.{Function}
use Rattle.sil_ast.specs.declared.inst.Inst as inst
use Rattle.sil_ast.specs.declared.module.Module.{Module}
use Rattle.sil_ast.specs.declared.place.EdgeId.{EdgeId}
use Rattle.sil_ast.specs.declared.place.FuncId.{FuncId}
use Rattle.sil_ast.specs.declared.place.ObjectId.{ObjectId}
use Rattle.sil_ast.specs.declared.place.PointId.{PointId}
use Rattle.sil_ast.specs.declared.place.ValueId.{ValueId}
use Rattle.memory_rules_accesses.specs.sil_cfg.declared.item.Item.{Item}
use Rattle.memory_rules_accesses.specs.sil_cfg.declared.item.Item.TheVariants as item
use Rattle.memory_rules_accesses.specs.sil_cfg_items.Items.{item_defined, item_taken}
use Rattle.memory_rules_accesses.specs.sil_cfg_items.Parts.{inst_at, terminator_of}
use Rattle.ownership_kinds_origins.specs.ownership_kinds_chains.declared.ownership_chains.facts.Facts.{Facts}
use Rattle.holder_model_values.specs.sil_types_declarations.TypeDefinitions.Declarations.{Declarations, declarations_of}
use Rattle.holder_model_values.specs.RunValues.Shapes.{Shape}
use Rattle.holder_model_values.specs.RunValues.Values as value
use Rattle.holder_model_values.specs.RunValues.Values.{Value, integer_of}
use Rattle.holder_model.specs.declared.event.Event.TheVariants as event
use Rattle.holder_model.specs.declared.trap.Trap.TheVariants as trap
use Rattle.holder_model.specs.Calling.{are_as_after, are_as_before, as_argument, handed_over, holds_something, lent_places, places_given, value_count}
use Rattle.holder_model.specs.Data.{Datum, ValueOf, all_of, as_value, values_of}
use Rattle.holder_model.specs.Dropping.{drop_with, finish_with}
use Rattle.holder_model.specs.Effects as effects
use Rattle.holder_model.specs.Effects.{Change, Effect, only, unchanged}
use Rattle.holder_model.specs.Edges.{branch_of, carried_along, case_edge, edge_of}
use Rattle.holder_model.specs.Faults.{HolderFault, LeavesHeld, LeavesPlace, LeavesSlot, PlaceNotAsAsked, WrongShape}
use Rattle.holder_model.specs.Frames.{Entry, Frame, LentPlace, Operands, has_any, no_entries, operands_of, results_put}
use Rattle.holder_model.specs.HolderStates.{HolderNext, HolderState, strong_holders}
use Rattle.holder_model.specs.MemoryEffects.{effect}
use Rattle.holder_model.specs.ModuleFacts.{ModuleFacts, facts_told}
use Rattle.holder_model.specs.ModuleShapes.{shapes_in}
use Rattle.holder_model.specs.Standing.{stands_at}
use Rattle.holder_model.specs.StepParts.{fault, new_frame, on_ok, on_some, slots_behind, switched_shape, with_chosen}
use Rattle.holder_model.specs.States.{Drops, Ends, Finishes, Goes, Returned, Runs, Task, Trapped, dropping, enter, turn}

-- the program that runs, what is told of its types, and the bound on its turns
module _ (m : Module) (told : ModuleFacts) (bound : ℕ) where
  abbrev pub declared : Declarations
  declared = declarations_of m

  abbrev pub facts : FuncId → ValueId → Option Facts
  facts g = facts_told told g

  abbrev pub shapes : FuncId → List Shape
  shapes g = shapes_in told.shapes g

  -- the frame goes on behind an item
  abbrev pub goes_on : HolderState → List (Task Frame) → Frame → Function → Item → Change → HolderNext
  goes_on s rest frame f i c =
      on_ok s (λ slots. on_ok s (λ entries. Goes (record s {
        tasks = dropping c.dropped (Runs (record frame { trail = i ∷ frame.trail; entries = entries; slots = slots; lent = [] }) ∷ rest);
        memory = c.memory;
        retains = s.retains + length c.retained;
      })) (results_put (facts frame.function) (item_defined f i) c.results frame.entries)) (slots_behind c.slots frame.slots)

  -- a function without a body is called: a turn and an event, and no frame
  abbrev pub calls_out : HolderState → List (Task Frame) → Frame → Function → Item → FuncId → List ℤ → HolderNext
  calls_out s rest frame f i g numbers =
      turn bound s (λ s'. goes_on (record s' { events = s'.events ++ event.Call g numbers ∷ [] }) rest frame f i
      (record (unchanged s'.memory) { results = ValueOf (value.Group value.NoValue) ∷ [] }))

  -- a function with a body is called over these tasks
  abbrev pub calls_in : HolderState → List (Task Frame) → FuncId → Function → List Datum → HolderNext
  calls_in s rest g f args =
      on_ok s (λ entries. enter bound rest s (λ s'. Goes (record s' { tasks = Runs (new_frame g entries) ∷ rest })))
      (results_put (facts g) (item_defined f item.Entry) args (no_entries (value_count f)))

  abbrev pub lends : HolderState → List (Task Frame) → Frame → FuncId → Function → List LentPlace → List Datum → HolderNext
  lends s rest frame g callee lent args =
      cond (are_as_before s.memory lent)
      (calls_in (record s { memory = handed_over s.memory lent }) (Runs (record frame { lent = lent }) ∷ rest) g callee (map as_argument args))
      (fault s PlaceNotAsAsked)

  abbrev pub numbers_of : List Datum → Option (List ℤ)
  numbers_of args = option_and_then (all_of integer_of) (values_of args)

  -- the callee's operand comes first among those that the item takes
  abbrev pub calls : HolderState → List (Task Frame) → Frame → Function → Item → FuncId → List Datum → Function → HolderNext
  calls s rest frame f i g args callee =
      cond (has_any callee.blocks)
      (lends s rest frame g callee (lent_places (drop 1 (item_taken f i)) args) args)
      (on_some s (calls_out s rest frame f i g) (numbers_of args))

  abbrev pub performs : HolderState → List (Task Frame) → Frame → Function → Item → Effect HolderFault → HolderNext
  performs s rest frame f i (effects.Makes c) = goes_on s rest frame f i c
  performs s rest frame f i (effects.Calls g args) = on_some s (calls s rest frame f i g args) (slice_get m.functions g.0)
  performs s rest frame f i (effects.Traps t) = Ends (Trapped t) s
  performs s rest frame f i (effects.Faults x) = fault s x
  performs s rest frame f i effects.Unfit = fault s WrongShape

  -- the frame without the operands that end
  abbrev pub taken_from : Frame → Operands → Frame
  taken_from frame ops = record frame { entries = ops.left }

  abbrev pub with_operands : HolderState → Frame → Function → Item → (Operands → HolderNext) → HolderNext
  with_operands s frame f i go = on_ok s go (operands_of (facts frame.function) s.memory frame.entries (item_taken f i))

  abbrev pub effect_in : HolderState → Frame → inst.Inst → List Datum → Effect HolderFault
  effect_in s frame i xs = effect declared told.shapes (shapes frame.function) s.memory i xs

  abbrev pub does : HolderState → List (Task Frame) → Frame → Function → PointId → inst.Inst → HolderNext
  does s rest frame f p i =
      with_operands s frame f (item.Inst p) (λ ops. performs s rest (taken_from frame ops) f (item.Inst p) (effect_in s frame i ops.given))

  -- an edge is taken: a turn, and the arguments of its block begin
  abbrev pub takes_edge : HolderState → List (Task Frame) → Frame → Function → EdgeId → HolderNext
  takes_edge s rest frame f e =
      with_operands s frame f (item.Edge e) (λ ops. on_some s (λ carried. turn bound s (λ s'.
      goes_on s' rest (taken_from frame ops) f (item.Edge e) (record (unchanged s'.memory) { results = carried })))
      (carried_along f e ops.given))

  abbrev pub resumes : HolderState → List (Task Frame) → Frame → Function → Datum → HolderNext
  resumes s rest frame f x =
      goes_on s rest frame f (item.Inst (stands_at f frame.trail)) (record (unchanged s.memory) { results = x ∷ [] })

  -- what is returned goes to the frame that waits for it, or out of the run; a deinitialiser returns to what waits behind it
  abbrev pub returns_to : HolderState → Datum → List (Task Frame) → HolderNext
  returns_to s x [] = on_some s (λ v. Ends (Returned v) (record s { tasks = [] })) (as_value x)
  returns_to s x (Runs frame ∷ rest) = on_some s (λ f. resumes s rest frame f x) (slice_get m.functions frame.function.0)
  returns_to s x (Drops references ∷ rest) = fault s WrongShape
  returns_to s x (Finishes deinits o ∷ rest) = Goes (record s { tasks = Finishes deinits o ∷ rest })

  -- a frame that returns holds nothing, has no slot, and leaves the places that it was given as they are asked for
  abbrev pub leaves : HolderState → Function → Frame → HolderNext → HolderNext
  leaves s f frame go =
      cond (holds_something frame.entries) (fault s LeavesHeld) (cond (has_any frame.slots) (fault s LeavesSlot)
      (cond (are_as_after s.memory (places_given f frame.entries)) go (fault s LeavesPlace)))

  abbrev pub returns : HolderState → List (Task Frame) → Frame → Function → PointId → HolderNext
  returns s rest frame f p =
      with_operands s frame f (item.Exit p) (λ ops. on_some s (λ x. leaves s f (taken_from frame ops) (returns_to s x rest)) (only ops.given))

  -- the edge for the case that a switched value is in
  abbrev pub switch_edge : Frame → inst.Inst → Value → Option ℕ
  switch_edge frame i x = case_edge (switched_shape (shapes frame.function) i) i.edges x

  abbrev pub ends_block_by : table.Ending → HolderState → List (Task Frame) → Frame → Function → PointId → inst.Inst → HolderNext
  ends_block_by ending.Inside s rest frame f p i = fault s WrongShape
  ends_block_by ending.OneBranch s rest frame f p i = takes_edge s rest frame f (edge_of p 0)
  ends_block_by ending.TwoBranches s rest frame f p i = with_chosen s frame i branch_of (λ k. takes_edge s rest frame f (edge_of p k))
  ends_block_by ending.Cases s rest frame f p i = with_chosen s frame i (switch_edge frame i) (λ k. takes_edge s rest frame f (edge_of p k))
  ends_block_by ending.Return s rest frame f p i = returns s rest frame f p
  ends_block_by ending.Unreachable s rest frame f p i = Ends (Trapped trap.Unreachable) s

  abbrev pub ends_block : HolderState → List (Task Frame) → Frame → Function → PointId → inst.Inst → HolderNext
  ends_block s rest frame f p i = ends_block_by (ending_of i.op) s rest frame f p i

  abbrev pub acts : HolderState → List (Task Frame) → Frame → Function → PointId → Option inst.Inst → HolderNext
  acts s rest frame f p (Some i) = does s rest frame f p i
  acts s rest frame f p None = on_some s (ends_block s rest frame f p) (terminator_of f p.block.0)

  abbrev pub runs : HolderState → List (Task Frame) → Frame → HolderNext
  runs s rest frame =
      on_some s (λ f. acts s rest frame f (stands_at f frame.trail) (inst_at f (stands_at f frame.trail))) (slice_get m.functions frame.function.0)

  -- the first reference that waits leaves its list
  abbrev pub drops : HolderState → ObjectId → HolderNext
  drops s o = drop_with declared bound s o (strong_holders s o)

  -- a deinitialiser that waits is called with the object lent
  abbrev pub deinit_called : HolderState → FuncId → ObjectId → HolderNext
  deinit_called s g o = on_some s (λ f. calls_in s s.tasks g f (ValueOf (value.Object o) ∷ [])) (slice_get m.functions g.0)

  abbrev pub task_step : HolderState → List (Task Frame) → HolderNext
  task_step s [] = fault s WrongShape
  task_step s (Runs frame ∷ rest) = runs s rest frame
  task_step s (Drops [] ∷ rest) = Goes (record s { tasks = rest })
  task_step s (Drops (o ∷ os) ∷ rest) = drops (record s { tasks = Drops os ∷ rest; releases = s.releases + 1 }) o
  task_step s (Finishes [] o ∷ rest) = finish_with (record s { tasks = rest }) o (strong_holders s o)
  task_step s (Finishes (g ∷ gs) o ∷ rest) = deinit_called (record s { tasks = Finishes gs o ∷ rest }) g o

  abbrev pub step : HolderState → HolderNext
  step s = task_step s s.tasks
