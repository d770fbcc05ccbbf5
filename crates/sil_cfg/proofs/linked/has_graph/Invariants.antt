use Rattle.std.proofs.Common.{take, All}
use Rattle.sil_cfg.specs.inner.Build.{IsBlockLinked}
use Rattle.sil_cfg.proofs.linked.has_graph.Given as goal

abbrev pub invariant-loop-block : goal.invariant-loop-block
invariant-loop-block l = All (IsBlockLinked l.f) (take l.block-index l.blocks)
