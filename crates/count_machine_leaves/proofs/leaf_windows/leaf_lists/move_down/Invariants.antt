use Rattle.std.proofs.Common.{◌≡◌, take, drop}
use Rattle.count_machine_model.specs.MachineSteps.Operands.{laid_over}
use Rattle.count_machine_leaves.proofs.leaf_windows.leaf_lists.move_down.Given as goal

abbrev pub invariant-loop-i : goal.invariant-loop-i
invariant-loop-i l = l.leaves ≡ laid_over l.to (take l.i (drop l.from l.initial.leaves)) l.initial.leaves
