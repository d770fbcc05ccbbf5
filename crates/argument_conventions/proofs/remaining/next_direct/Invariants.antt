use Rattle.std.proofs.Common.{◌≡◌, drop}
use Rattle.argument_conventions.specs.Arguments.{direct_results}
use Rattle.argument_conventions.proofs.remaining.next_direct.Given as goal

abbrev pub invariant-loop-i : goal.invariant-loop-i
invariant-loop-i l = direct_results l.results ≡ direct_results (drop l.i l.results)
