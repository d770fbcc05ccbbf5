-- There are the values of a body wherever a production is expanded.
use Rattle.std.proofs.Common.{[], length, ap, arith}
use Rattle.sil_grammar_modules.proofs.ReplayLength.{enough_before}
use Rattle.sil_grammar_modules.proofs.lacking.replay_lacking.Goals as goal

pub reduce-requires : goal.reduce-requires
reduce-requires c =
    let long = enough_before c.args.steps.now [] c.loop-i.i _ c.in-Expand.production c.requires c.loop-i-test.true c.loop-i.auto.i c.in-Expand.is in
    omega (arith, long, ap length c.loop-i.invariant)
