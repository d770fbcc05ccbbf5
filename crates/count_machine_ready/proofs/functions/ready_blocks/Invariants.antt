use Rattle.std.proofs.Common.{take}
use Rattle.count_machine_model.specs.ReadyCode.Matched.{Matched}
use Rattle.count_machine_model.specs.ReadyCode.ReadyModules.{IsReadyBlock}
use Rattle.count_machine_ready.proofs.functions.ready_blocks.Given as goal

abbrev pub invariant-loop-block : goal.invariant-loop-block
invariant-loop-block l = Matched (IsReadyBlock l.body.m.now l.body.function.now) (take l.block-index l.body.function.now.blocks) l.blocks
