use Rattle.std.proofs.Common.{arith}
use Rattle.argument_conventions.proofs.Places.{outs_and_direct}
use Rattle.argument_conventions.proofs.arguments.argument_count.Goals as goal

pub overflow_add-result : goal.overflow_add-result
overflow_add-result c =
    omega (arith, c.out_count.ensures, c.as_slice-results.type_inv, c.as_slice-params.type_inv, outs_and_direct c.as_slice-results.result.now)
