-- What a frame does within its block: one step, or the two of a drop that takes no last reference.
use Rattle.std.specs.Prelude.{◌≡◌, ℕ, ◌<◌, ◌≤◌, true, false, List, [], ◌∷◌, Err, Ok, length}
use Rattle.std.specs.declared.result.Result.{Result}
use Rattle.count_heap.specs.HeapModel.HeapViews.{is_dead_in, strong_in}
use Rattle.count_machine_model.specs.declared.ready_code.function.ReadyModule.{ReadyModule}
use Rattle.count_machine_model.specs.declared.ready_code.local.Local.{Local}
use Rattle.sil_ast.specs.declared.place.ObjectId.{ObjectId}
use Rattle.count_machine_model.specs.declared.machine_steps.frame.Frame.{Frame}
use Rattle.count_machine_model.specs.declared.machine_steps.frame.Task.{Task}
use Rattle.count_machine_model.specs.declared.machine_steps.frame.Task.TheVariants.{Runs}
use Rattle.count_machine_model.specs.MachineSteps.Operands.{behind_op, contents, is_there_in, objects_among}
use Rattle.count_machine_model.specs.MachineSteps.Runs.{Leads}
use Rattle.count_machine_model.specs.MachineSteps.Views.{Goes, MachineView}
use Rattle.count_machine_state.specs.declared.stop.Stop.{Stop}
use Rattle.count_machine_engine.specs.Led.{HasEnded}
use Rattle.count_machine_engine.specs.inner.Work.{work}

-- the value is there and is this object alone, which isn't dead and has another reference
abbrev pub IsShared : MachineView → Frame → Local → ObjectId → Type 0
IsShared st fr l o =
    (is_there_in st fr l.value ≡ true) × (objects_among (contents st fr l) ≡ o ∷ []) × (is_dead_in st.heap o ≡ false) × (2 ≤ strong_in st.heap o)

-- steps led on, with less work left. With as many tasks as before, the frame stands behind its instruction
abbrev pub HasAdvanced : ReadyModule → ℕ → MachineView → Frame → List Task → Result (Unit {0}) Stop → MachineView → Type 0
HasAdvanced ready bound old fr rest (Ok u) new =
    Leads ready bound old (Goes new) × (work ready bound new < work ready bound old)
    × (length new.tasks ≡ length old.tasks → new.tasks ≡ Runs (behind_op fr) ∷ rest)
HasAdvanced ready bound old fr rest (Err stop) new = HasEnded ready bound old stop new
