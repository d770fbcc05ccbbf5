use Rattle.std.proofs.Common.{◌≡◌, length}
use Rattle.cases.proofs.marked.Switch.of.Given as goal

abbrev pub invariant-loop-i : goal.invariant-loop-i
invariant-loop-i l = length l.marks.items ≡ l.i
