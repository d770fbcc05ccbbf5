use Rattle.std.proofs.Common.{◌≡◌, drop}
use Rattle.std.specs.Prelude.{find}
use Rattle.count_heap.specs.HeapModel.HeapViews.{is_dead_in}
use Rattle.count_machine_model.specs.MachineSteps.Operands.{objects_among}
use Rattle.count_machine_state.proofs.machine.Machine.first_dead.Given as goal

abbrev pub invariant-loop-leaf : goal.invariant-loop-leaf
invariant-loop-leaf l =
    find (is_dead_in l.self.heap) (objects_among (drop l.leaf-index l.leaf-items)) ≡ find (is_dead_in l.self.heap) (objects_among l.leaf-items)
