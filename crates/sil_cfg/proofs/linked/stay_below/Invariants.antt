use Rattle.std.proofs.Common.{◌<◌, take, All}
use Rattle.sil_cfg.proofs.linked.stay_below.Given as goal

abbrev pub invariant-loop-edge : goal.invariant-loop-edge
invariant-loop-edge l = All (λ e. e.block.0 < l.blocks) (take l.edge-index l.edges)
