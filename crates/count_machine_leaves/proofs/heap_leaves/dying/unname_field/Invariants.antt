use Rattle.std.proofs.Common.{◌≡◌, ◌-◌, drop, length}
use Rattle.count_heap.specs.HeapModel.HeapViews.{field_in, object_in}
use Rattle.count_machine_model.specs.MachineSteps.Steps.{field_unnamed}
use Rattle.count_machine_leaves.proofs.HeapLeaves.Alike.{Alike}
use Rattle.std.specs.Prelude.{option_map}
use Rattle.count_machine_leaves.proofs.HeapLeaves.Unnamed.{leaves_of_field}
use Rattle.count_machine_leaves.proofs.heap_leaves.dying.unname_field.Given as goal

abbrev pub invariant-loop-leaf : goal.invariant-loop-leaf
invariant-loop-leaf l = record {
  alike : Alike (object_in l.initial.heap l.object) (object_in l.heap l.object);
  left : field_unnamed l.storage (option_map (drop l.at) (field_in l.initial.heap l.object l.index)) l.heap ≡
      field_unnamed l.storage (field_in l.initial.heap l.object l.index) l.initial.heap;
}

abbrev pub decreases-loop-leaf : goal.decreases-loop-leaf
decreases-loop-leaf l = length (leaves_of_field (field_in l.initial.heap l.object l.index)) - l.at
