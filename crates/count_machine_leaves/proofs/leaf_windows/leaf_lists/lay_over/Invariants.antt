use Rattle.std.proofs.Common.{◌≡◌, take, ◌+◌}
use Rattle.count_machine_model.specs.MachineSteps.Operands.{laid_over}
use Rattle.count_machine_leaves.proofs.leaf_windows.leaf_lists.lay_over.Given as goal

abbrev pub invariant-loop-leaf : goal.invariant-loop-leaf
invariant-loop-leaf l = (l.at ≡ l.from + l.leaf-index) × (l.leaves ≡ laid_over l.from (take l.leaf-index l.new) l.initial.leaves)
