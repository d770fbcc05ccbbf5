-- The steps of the machine: one instruction or terminator, one drop, one call of a deinitialiser, or one finish.
use Rattle.std.specs.Prelude.{ℕ, ◌+◌, ◌-◌, ◌==◌, List, [], ◌∷◌, ◌++◌, Bool, true, false, not, cond, Option, Some, None, length}
use Rattle.std.specs.Prelude.{slice_get, take, unwrap_or}
use Rattle.holder_model.specs.declared.event.Event.TheVariants as event
use Rattle.count_heap.specs.HeapModel.HeapCalls.{finished, released, started, takes_last}
use Rattle.count_heap.specs.HeapModel.HeapViews.{HeapView, class_in, fields_in, is_dead_in, phase_in, strong_in}
use Rattle.holder_model.specs.declared.lowered_run.low_fault.LowFault.TheVariants as fault
use Rattle.numbered_form.specs.Names.{Name}
use Rattle.count_machine_model.specs.declared.ready_code.block.ReadyBlock.{ReadyBlock}
use Rattle.count_machine_model.specs.declared.ready_code.function.ReadyClass.{ReadyClass}
use Rattle.count_machine_model.specs.declared.ready_code.function.ReadyFunction.{ReadyFunction}
use Rattle.count_machine_model.specs.declared.ready_code.function.ReadyModule.{ReadyModule}
use Rattle.count_machine_model.specs.declared.ready_code.local.Local.{Local}
use Rattle.count_machine_model.specs.declared.ready_code.op.ReadyOp.{ReadyOp}
use Rattle.holder_model.specs.holder_model_values.declared.run_values.leaf.Leaf.{Leaf}
use Rattle.holder_model.specs.holder_model_values.declared.run_values.phase.Phase.{Phase}
use Rattle.holder_model.specs.holder_model_values.declared.run_values.phase.Phase.TheVariants as phase
use Rattle.holder_model.specs.holder_model_values.declared.run_values.leaf.Leaf.TheVariants as leaf
use Rattle.sil_ast.specs.declared.decl.Storage.{Storage}
use Rattle.sil_ast.specs.declared.decl.Storage.TheVariants as storage
use Rattle.sil_ast.specs.declared.place.FuncId.{FuncId}
use Rattle.sil_ast.specs.declared.place.ObjectId.{ObjectId}
use Rattle.holder_model.specs.sil_types_declarations.TypeDefinitions.Lookups.{class_at}
use Rattle.count_machine_model.specs.declared.machine_steps.frame.Frame.{Frame}
use Rattle.count_machine_model.specs.declared.machine_steps.frame.Task.{Task}
use Rattle.count_machine_model.specs.declared.machine_steps.frame.Task.TheVariants as task
use Rattle.count_machine_model.specs.declared.machine_steps.run_end.RunEnd.TheVariants as end
use Rattle.count_machine_model.specs.MachineSteps.Calling.{enter, new_frame, with_frame}
use Rattle.count_machine_model.specs.MachineSteps.Ends.{block_at, ends_with}
use Rattle.count_machine_model.specs.MachineSteps.Naming.{all_unnamed}
use Rattle.count_machine_model.specs.MachineSteps.Operands.{faults, objects_among, put}
use Rattle.count_machine_model.specs.MachineSteps.Rows.{performs}
use Rattle.count_machine_model.specs.MachineSteps.Turning.{dropping, turn}
use Rattle.count_machine_model.specs.MachineSteps.Views.{Goes, MachineView, Stops, Went}

-- a class, by its place among the declarations

abbrev pub no_class : ReadyClass
no_class = record { deinits = []; fields = [] }

abbrev pub class_of : ReadyModule → HeapView → ObjectId → ReadyClass
class_of ready h o = unwrap_or (slice_get ready.classes (class_in h o)) no_class

abbrev pub name_of : HeapView → ObjectId → Name
name_of h o = unwrap_or (class_at h.declarations (class_in h o)) []

-- fields of a dying object: the references of strong ones, in order; those that weak and unowned ones name are named no longer

abbrev pub strong_in_field : Storage → Option (List Leaf) → List ObjectId
strong_in_field storage.Strong (Some ls) = objects_among ls
strong_in_field storage.Strong None = []
strong_in_field storage.Weak x = []
strong_in_field storage.Unowned x = []

abbrev pub strong_in_fields : List Storage → List (Option (List Leaf)) → List ObjectId
strong_in_fields [] xs = []
strong_in_fields (w ∷ ws) [] = []
strong_in_fields (w ∷ ws) (x ∷ xs) = strong_in_field w x ++ strong_in_fields ws xs

abbrev pub field_unnamed : Storage → Option (List Leaf) → HeapView → HeapView
field_unnamed w None h = h
field_unnamed w (Some ls) h = all_unnamed w (objects_among ls) h

abbrev pub fields_unnamed : List Storage → List (Option (List Leaf)) → HeapView → HeapView
fields_unnamed [] xs h = h
fields_unnamed (w ∷ ws) [] h = h
fields_unnamed (w ∷ ws) (x ∷ xs) h = fields_unnamed ws xs (field_unnamed w x h)

abbrev pub is_deiniting : Phase → Bool
is_deiniting phase.Live = false
is_deiniting phase.Deiniting = true
is_deiniting phase.Dead = false

module _ (ready : ReadyModule) (bound : ℕ) where
  -- frames

  abbrev pub acts : MachineView → Frame → List Task → ReadyBlock → Option ReadyOp → Went
  acts st fr rest b None = ends_with ready bound st fr rest b.end
  acts st fr rest b (Some o) = performs ready bound st fr rest o

  abbrev pub runs_block : MachineView → Frame → List Task → Option ReadyBlock → Went
  runs_block st fr rest None = faults fault.Slot st
  runs_block st fr rest (Some b) = acts st fr rest b (slice_get b.ops fr.index)

  abbrev pub runs : MachineView → Frame → List Task → Went
  runs st fr rest = runs_block st fr rest (block_at ready fr.function fr.block)

  -- drops

  -- the object starts to deinitialise
  abbrev pub deinitialises : MachineView → ObjectId → Went
  deinitialises st o = turn bound st (λ after. Goes (record after {
    tasks = task.Finishes o 0 ∷ after.tasks;
    heap = started after.heap o;
    events = after.events ++ event.Deinit (name_of after.heap o) o ∷ [];
  }))

  abbrev pub releases_alive : MachineView → ObjectId → Went
  releases_alive st o =
      cond (takes_last st.heap o) (deinitialises (record st { heap = released st.heap o }) o) (Goes (record st { heap = released st.heap o }))

  abbrev pub releases : MachineView → ObjectId → Went
  releases st o =
      cond (is_dead_in st.heap o) (faults (fault.Dead o) st) (cond (strong_in st.heap o == 0) (faults (fault.Underflow o 0) st) (releases_alive st o))

  -- the last of the references that wait leaves; where it was the only one of its drop, so does the drop
  abbrev pub still_dropping : ℕ → ℕ → List Task → List Task
  still_dropping from left rest = cond (left == from) rest (task.Drops from ∷ rest)

  abbrev pub drops_last : MachineView → ℕ → List Task → ℕ → Option ObjectId → Went
  drops_last st from rest left None = Goes (record st { tasks = rest })
  drops_last st from rest left (Some o) = releases (record st { waiting = take left st.waiting; tasks = still_dropping from left rest }) o

  abbrev pub drops : MachineView → ℕ → List Task → Went
  drops st from rest = drops_last st from rest (length st.waiting - 1) (slice_get st.waiting (length st.waiting - 1))

  -- deinitialisation

  abbrev pub with_object : MachineView → Frame → Option Local → ObjectId → MachineView
  with_object st fr None o = st
  with_object st fr (Some to) o = put st fr to (leaf.Object o ∷ [])

  abbrev pub deinit_entered : FuncId → ObjectId → MachineView → Option ReadyFunction → Went
  deinit_entered g o st None = faults fault.Slot st
  deinit_entered g o st (Some f) = Goes (with_object (with_frame st g f) (new_frame st g) f.first_argument o)

  abbrev pub calls_deinit : MachineView → FuncId → ObjectId → Went
  calls_deinit st g o = enter bound st (λ after. deinit_entered g o after (slice_get ready.functions g.0))

  abbrev pub finishes : MachineView → ObjectId → Went
  finishes st o =
      cond (not (strong_in st.heap o == 0)) (Stops end.Escaped st)
      (cond (is_deiniting (phase_in st.heap o))
      (Goes (dropping (strong_in_fields (class_of ready st.heap o).fields (fields_in st.heap o))
      (record st { heap = finished (fields_unnamed (class_of ready st.heap o).fields (fields_in st.heap o) st.heap) o })))
      (faults fault.Slot st))

  abbrev pub deinit_step : MachineView → ObjectId → ℕ → List Task → Option FuncId → Went
  deinit_step st o called rest (Some g) = calls_deinit (record st { tasks = task.Finishes o (called + 1) ∷ rest }) g o
  deinit_step st o called rest None = finishes (record st { tasks = rest }) o

  abbrev pub task_step : MachineView → List Task → Went
  task_step st [] = faults fault.Slot st
  task_step st (task.Runs fr ∷ rest) = runs st fr rest
  task_step st (task.Drops from ∷ rest) = drops st from rest
  task_step st (task.Finishes o called ∷ rest) = deinit_step st o called rest (slice_get (class_of ready st.heap o).deinits called)

  abbrev pub machine_step : MachineView → Went
  machine_step st = task_step st st.tasks
