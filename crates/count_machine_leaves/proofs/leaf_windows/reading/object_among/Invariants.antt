use Rattle.std.proofs.Common.{◌≡◌, drop}
use Rattle.count_machine_model.specs.MachineSteps.Operands.{objects_among}
use Rattle.count_machine_leaves.proofs.leaf_windows.reading.object_among.Given as goal

abbrev pub invariant-loop-leaf : goal.invariant-loop-leaf
invariant-loop-leaf l = objects_among (drop l.leaf-index l.leaves) ≡ objects_among l.leaves
