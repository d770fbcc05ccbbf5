use Rattle.std.proofs.Common.{◌≡◌, drop}
use Rattle.count_heap.specs.HeapModel.HeapViews.{fields_in, object_in}
use Rattle.count_machine_model.specs.MachineSteps.Steps.{fields_unnamed}
use Rattle.count_machine_leaves.proofs.HeapLeaves.Alike.{Alike}
use Rattle.count_machine_leaves.proofs.heap_leaves.dying.unname_fields.Given as goal

abbrev pub invariant-loop-index : goal.invariant-loop-index
invariant-loop-index l = record {
  alike : Alike (object_in l.initial.heap l.object) (object_in l.heap l.object);
  left : fields_unnamed (drop l.index l.fields) (drop l.index (fields_in l.initial.heap l.object)) l.heap ≡ fields_unnamed l.fields (fields_in l.initial.heap l.object) l.initial.heap;
}
