use Rattle.std.proofs.Common.{◌≡◌, ◌++◌, take}
use Rattle.count_machine_model.specs.MachineSteps.Operands.{objects_among}
use Rattle.count_machine_leaves.proofs.leaf_windows.gathering.gather_objects.Given as goal

abbrev pub invariant-loop-leaf : goal.invariant-loop-leaf
invariant-loop-leaf l = l.waiting.items ≡ l.initial.waiting.items ++ objects_among (take l.leaf-index l.leaves)
