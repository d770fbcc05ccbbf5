use Rattle.std.proofs.Common.{◌≡◌}
use Rattle.count_machine.proofs.Leaving.{left_below}
use Rattle.count_machine.proofs.left.all_left.Given as goal

abbrev pub invariant-loop-number : goal.invariant-loop-number
invariant-loop-number l = l.left ≡ left_below l.heap l.number
