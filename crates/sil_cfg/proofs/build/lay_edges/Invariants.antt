use Rattle.std.proofs.Common.{◌≡◌, take, length}
use Rattle.sil_cfg.specs.inner.Laying.{Adds, AreEdgesLaid}
use Rattle.sil_cfg.proofs.build.lay_edges.Given as goal

abbrev pub invariant-loop-index : goal.invariant-loop-index
invariant-loop-index l = record {
  adds : Adds l.b.0 l.block l.initial.kinds.items l.kinds.items;
  edges : AreEdgesLaid l.kinds.items l.b.0 (take l.index l.edge-items) l.flows.items;
  size : length l.flows.items ≡ l.index;
  same : l.edge-items ≡ l.block.terminator.edges;
}
