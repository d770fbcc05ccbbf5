use Rattle.std.proofs.Common.{arith}
use Rattle.argument_conventions.proofs.Places.{outs_and_direct}
use Rattle.argument_conventions.proofs.arguments.out_count.Goals as goal

pub overflow_sub-result : goal.overflow_sub-result
overflow_sub-result c = omega (arith, c.direct_count.ensures, outs_and_direct c.args.results.now)

pub returns : goal.returns
returns c = omega (arith, c.direct_count.ensures, outs_and_direct c.args.results.now)
