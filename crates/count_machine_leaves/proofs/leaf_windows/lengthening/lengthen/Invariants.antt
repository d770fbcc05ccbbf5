use Rattle.std.proofs.Common.{◌≡◌, ◌++◌, replicate}
use Rattle.count_machine_leaves.proofs.leaf_windows.lengthening.lengthen.Given as goal

abbrev pub invariant-loop-i : goal.invariant-loop-i
invariant-loop-i g l = l.list.items ≡ l.initial.list.items ++ replicate l._i l.item
