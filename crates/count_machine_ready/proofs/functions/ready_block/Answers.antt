use Rattle.std.proofs.Common.{subst}
use Rattle.count_machine_model.specs.ReadyCode.Matched.{Matched}
use Rattle.count_machine_ready.specs.inner.Bodies.{IsReadyOp}
use Rattle.count_machine_ready.proofs.functions.ready_block.Goals as goal

pub returns : goal.returns
returns c = record {
  ops = subst (λ insts. Matched (IsReadyOp c.args.body.now) insts c.in_ok-ops.ops) c.as_slice.ensures c.in_ok-ops.ensures;
  end = c.in_ok-ready_end.ensures;
}
