use Rattle.std.proofs.Common.{take}
use Rattle.sil_cfg.specs.Items.{insts_from}
use Rattle.sil_cfg.specs.inner.Laying.{LaysMore}
use Rattle.sil_cfg.proofs.build.add_insts.Given as goal

abbrev pub invariant-loop-k : goal.invariant-loop-k
invariant-loop-k l = LaysMore l.b.0 l.block l.initial.kinds.items l.kinds.items l.initial.items.items l.items.items (insts_from l.b.0 0 (take l.k l.block.insts))
