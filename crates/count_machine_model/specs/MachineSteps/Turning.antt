-- Turns, retains, and references that wait to be dropped.
use Rattle.std.specs.Prelude.{ℕ, ◌+◌, List, [], ◌∷◌, ◌++◌, cond, length, nat_lt, reverse}
use Rattle.count_heap.specs.HeapModel.HeapCalls.{retained}
use Rattle.count_heap.specs.HeapModel.HeapViews.{is_dead_in}
use Rattle.holder_model.specs.declared.lowered_run.low_fault.LowFault.TheVariants as fault
use Rattle.sil_ast.specs.declared.place.ObjectId.{ObjectId}
use Rattle.count_machine_model.specs.declared.machine_steps.frame.Task.{Task}
use Rattle.count_machine_model.specs.declared.machine_steps.frame.Task.TheVariants as task
use Rattle.count_machine_model.specs.declared.machine_steps.run_end.RunEnd.TheVariants as end
use Rattle.count_machine_model.specs.MachineSteps.Operands.{faults}
use Rattle.count_machine_model.specs.MachineSteps.Views.{MachineView, Stops, Went}

-- a turn: the one that would be past the bound isn't begun
abbrev pub turn : ℕ → MachineView → (MachineView → Went) → Went
turn bound st go = cond (nat_lt st.turns bound) (go (record st { turns = st.turns + 1 })) (Stops end.OutOfTurns st)

abbrev pub is_frame : Task → ℕ
is_frame (task.Runs fr) = 1
is_frame (task.Drops from) = 0
is_frame (task.Finishes o called) = 0

abbrev pub frames_in : List Task → ℕ
frames_in [] = 0
frames_in (t ∷ ts) = is_frame t + frames_in ts

-- one reference more of each object, one after another; a dead one is a fault
abbrev pub retains_all : List ObjectId → MachineView → (MachineView → Went) → Went
retains_all [] st go = go st
retains_all (o ∷ os) st go = cond (is_dead_in st.heap o) (faults (fault.Dead o) st) (retains_all os (record st { heap = retained st.heap o }) go)

-- references wait to be dropped before the other tasks go on
abbrev pub dropping : List ObjectId → MachineView → MachineView
dropping [] st = st
dropping (o ∷ os) st = record st { waiting = st.waiting ++ reverse (o ∷ os); tasks = task.Drops (length st.waiting) ∷ st.tasks }
