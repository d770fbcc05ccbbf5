use Rattle.std.proofs.Common.{◌≡◌, map}
use Rattle.sil_cfg.specs.Layout.{block_of}
use Rattle.sil_cfg.specs.inner.Laying.{AreLaid}
use Rattle.sil_cfg.proofs.build.build_blocks.Given as goal

abbrev pub invariant-loop-b : goal.invariant-loop-b
invariant-loop-b l = record {
  laid : AreLaid l.f l.kinds.items (map block_of l.blocks.items) l.b;
  same : l.block-items ≡ l.f.blocks;
}
