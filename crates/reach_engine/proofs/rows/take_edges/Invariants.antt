use Rattle.std.proofs.Common.{◌≡◌, ◌*◌, length}
use Rattle.sil_cfg.specs.Flow.{numbered, block_count}
use Rattle.reach_engine.specs.inner.Reached.{EdgesTaken, MarksGains}
use Rattle.reach_engine.proofs.rows.take_edges.Given as goal

abbrev pub invariant-loop-index : goal.invariant-loop-index
invariant-loop-index g l = record {
  size : length l.rows ≡ block_count (numbered l.g) * (g.F.Family.state_count l.family * l.width);
  bad_size : length l.bad ≡ l.width;
  taken : EdgesTaken (numbered l.g) (g.F.Family.step_of l.family) (g.F.Family.state_count l.family) (g.F.Family.subject_count l.family) l.width l.block.0 l.bundle l.fn.rows l.rows
      l.fn.bad l.bad l.index l.is_new;
  dirty_size : length l.dirty ≡ block_count (numbered l.g);
  marks : MarksGains (g.F.Family.state_count l.family) (g.F.Family.subject_count l.family) l.width l.fn.rows l.rows l.fn.dirty l.dirty l.is_new;
}
