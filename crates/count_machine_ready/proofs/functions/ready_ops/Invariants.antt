use Rattle.std.proofs.Common.{take}
use Rattle.count_machine_model.specs.ReadyCode.Matched.{Matched}
use Rattle.count_machine_ready.specs.inner.Bodies.{IsReadyOp}
use Rattle.count_machine_ready.proofs.functions.ready_ops.Given as goal

abbrev pub invariant-loop-inst : goal.invariant-loop-inst
invariant-loop-inst l = Matched (IsReadyOp l.body) (take l.inst-index l.insts) l.ops
