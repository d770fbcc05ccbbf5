use Rattle.std.proofs.Common.{◌≡◌, drop}
use Rattle.std.specs.Prelude.{slice_get}
use Rattle.std.specs.List.{flat_map}
use Rattle.argument_conventions.specs.Arguments.{out_argument}
use Rattle.argument_conventions.proofs.arguments.out_result.Given as goal

abbrev pub invariant-loop-given : goal.invariant-loop-given
invariant-loop-given l = slice_get (flat_map out_argument (drop l.given-index l.results)) l.left ≡ slice_get (flat_map out_argument l.results) l.number
