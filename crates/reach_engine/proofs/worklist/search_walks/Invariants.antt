use Rattle.std.proofs.Common.{◌-◌, ◌*◌}
use Rattle.sil_cfg.specs.Flow.{numbered, block_count}
use Rattle.reach_engine.specs.inner.Frontier.{FrontOf}
use Rattle.reach_engine.proofs.worklist.search_walks.Given as goal

abbrev pub invariant-loop-at : goal.invariant-loop-at
invariant-loop-at g l = FrontOf (numbered l.g) (g.S.Scan.step_of l.scan) (g.S.Scan.state_count l.scan) l.front l.at

abbrev pub decreases-loop-at : goal.decreases-loop-at
decreases-loop-at g l = block_count (numbered l.g) * g.S.Scan.state_count l.scan - l.at
