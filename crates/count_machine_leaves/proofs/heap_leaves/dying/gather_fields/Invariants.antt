use Rattle.std.proofs.Common.{◌≡◌, ◌++◌, drop}
use Rattle.count_heap.specs.HeapModel.HeapViews.{fields_in}
use Rattle.count_machine_model.specs.MachineSteps.Steps.{strong_in_fields}
use Rattle.count_machine_leaves.proofs.heap_leaves.dying.gather_fields.Given as goal

abbrev pub invariant-loop-index : goal.invariant-loop-index
invariant-loop-index l =
    l.waiting.items ++ strong_in_fields (drop l.index l.fields) (drop l.index (fields_in l.heap l.object)) ≡
    l.initial.waiting.items ++ strong_in_fields l.fields (fields_in l.heap l.object)
