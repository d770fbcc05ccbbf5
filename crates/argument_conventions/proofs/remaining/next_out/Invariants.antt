use Rattle.std.proofs.Common.{◌≡◌, drop}
use Rattle.std.specs.List.{flat_map}
use Rattle.argument_conventions.specs.Arguments.{out_argument}
use Rattle.argument_conventions.proofs.remaining.next_out.Given as goal

abbrev pub invariant-loop-i : goal.invariant-loop-i
invariant-loop-i l = flat_map out_argument l.results ≡ flat_map out_argument (drop l.i l.results)
