-- What storage gives, by the live object that it names.
use Rattle.std.specs.Prelude.{List, [], ◌∷◌, Bool, true, false, Option, Some, None, is_none}
use Rattle.holder_model.specs.declared.lowered_run.low_fault.LowFault.TheVariants as fault
use Rattle.count_machine_model.specs.MachineSteps.Held.{Empty, Full, Gone, OfDead}
use Rattle.count_machine_model.specs.MachineSteps.Naming.{none_leaves, some_leaves}
use Rattle.count_machine_model.specs.MachineSteps.Operands.{faults, gives}
use Rattle.count_machine_model.specs.MachineSteps.Places.{retained_and}
use Rattle.count_machine_model.specs.MachineSteps.Views.{MachineView, Stops, Went}
use Rattle.count_machine_model.specs.declared.machine_steps.frame.Frame.{Frame}
use Rattle.count_machine_model.specs.declared.machine_steps.frame.Task.{Task}
use Rattle.count_machine_model.specs.declared.machine_steps.run_end.RunEnd.TheVariants as end
use Rattle.count_machine_model.specs.declared.ready_code.local.Local.{Local}
use Rattle.holder_model_values.specs.declared.run_values.leaf.Leaf.TheVariants as leaf
use Rattle.sil_ast.specs.declared.decl.Storage.{Storage}
use Rattle.sil_ast.specs.declared.decl.Storage.TheVariants as storage
use Rattle.sil_ast.specs.declared.place.ObjectId.{ObjectId}
use Rattle.count_machine_state.specs.declared.held.NameHeld.{NameHeld}
use Rattle.count_machine_state.specs.declared.held.NameHeld.TheVariants as name

-- what weak storage gives, where it names a live object and where it doesn't
abbrev pub weak_by : MachineView → Frame → Local → Option ObjectId → List Task → Went
weak_by st fr to None rest = gives st fr rest to none_leaves
weak_by st fr to (Some o) rest = retained_and st fr rest st to (some_leaves o) o

abbrev pub unowned_by : MachineView → Frame → Local → Option ObjectId → List Task → Went
unowned_by st fr to None rest = Stops end.Unowned st
unowned_by st fr to (Some o) rest = retained_and st fr rest st to (leaf.Object o ∷ []) o

abbrev pub live_given : Storage → MachineView → Frame → Local → Option ObjectId → List Task → Went
live_given storage.Strong st fr to live rest = faults fault.Empty st
live_given storage.Weak st fr to live rest = weak_by st fr to live rest
live_given storage.Unowned st fr to live rest = unowned_by st fr to live rest

abbrev pub is_strong : Storage → Bool
is_strong storage.Strong = true
is_strong storage.Weak = false
is_strong storage.Unowned = false

-- the program traps where unowned storage names no live object
abbrev pub traps_at : Storage → Option ObjectId → Bool
traps_at storage.Strong live = false
traps_at storage.Weak live = false
traps_at storage.Unowned live = is_none live

abbrev pub is_gone : NameHeld → Bool
is_gone name.Gone = true
is_gone (name.OfDead o) = false
is_gone name.Empty = false
is_gone (name.Full l) = false
