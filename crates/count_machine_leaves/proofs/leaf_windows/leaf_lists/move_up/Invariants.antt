use Rattle.std.proofs.Common.{◌≡◌, ◌+◌, ◌≤◌, take, drop}
use Rattle.count_machine_model.specs.MachineSteps.Operands.{laid_over}
use Rattle.count_machine_leaves.proofs.leaf_windows.leaf_lists.move_up.Given as goal

abbrev pub invariant-loop-i : goal.invariant-loop-i
invariant-loop-i l = (l.i ≤ l.count) × (l.leaves ≡ laid_over (l.to + l.i) (drop l.i (take l.count (drop l.from l.initial.leaves))) l.initial.leaves)

abbrev pub decreases-loop-i : goal.decreases-loop-i
decreases-loop-i l = l.i
