use Rattle.std.proofs.Common.{◌≡◌, ℕ, ◌<◌, Some}
use Rattle.std.specs.List.{slice_get}
use Rattle.sil_cfg.specs.Flow.{numbered, edge_id}
use Rattle.reach_engine.specs.inner.Frontier.{FrontOf, EdgeDone}
use Rattle.reach_engine.proofs.frontier.explore.Given as goal

abbrev pub invariant-loop-index : goal.invariant-loop-index
invariant-loop-index g l = record {
  front : FrontOf (numbered l.g) (g.S.Scan.step_of l.scan) (g.S.Scan.state_count l.scan) l.front l.at;
  there : slice_get l.front.queue.items l.at ≡ Some l.visit;
  done : (j : ℕ) → j < l.index → EdgeDone (numbered l.g) (g.S.Scan.step_of l.scan) l.front.queue.items l.front.best l.visit (edge_id l.visit.block j);
}
