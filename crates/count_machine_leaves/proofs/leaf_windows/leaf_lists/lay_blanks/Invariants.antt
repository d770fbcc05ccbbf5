use Rattle.std.proofs.Common.{◌≡◌, ◌+◌, replicate}
use Rattle.count_machine_model.specs.MachineSteps.Operands.{laid_over}
use Rattle.holder_model_values.specs.declared.run_values.leaf.Leaf.TheVariants.{Blank}
use Rattle.count_machine_leaves.proofs.leaf_windows.leaf_lists.lay_blanks.Given as goal

abbrev pub invariant-loop-i : goal.invariant-loop-i
invariant-loop-i l = (l.at ≡ l.from + l._i) × (l.leaves ≡ laid_over l.from (replicate l._i Blank) l.initial.leaves)
