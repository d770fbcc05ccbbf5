use Rattle.std.proofs.Common.{◌∙◌, arith}
use Rattle.sil_cfg.specs.Flow.{numbered}
use Rattle.reach_engine.proofs.RowsAreExact.{so_far_first}
use Rattle.reach_engine.proofs.DirtyBlocks.{all_dirty}
use Rattle.reach_engine.proofs.rows.fill.Goals as goal

pub settle-requires-clause-settled : goal.settle-requires-clause-settled
settle-requires-clause-settled g c =
    all_dirty (numbered c.args.g.now) (g.F.Family.step_of c.args.family.now) (g.F.Family.state_count c.args.family.now) (g.F.Family.subject_count c.args.family.now) c.args.width c.seed.new.rows
    c.args.bad.now c.args.dirty.now c.requires.dirty_size c.requires.dirty
    (so_far_first (numbered c.args.g.now) (g.F.Family.step_of c.args.family.now) (g.F.Family.state_count c.args.family.now) (g.F.Family.subject_count c.args.family.now) c.args.width c.seed.new.rows
    c.args.bad.now c.requires.fits (c.seed.auto.rows ∙ c.requires.size) c.requires.bad_size
    (λ k lt. c.seed.ensures.set k (omega arith)) (λ k le. c.seed.ensures.rest k (omega arith)) c.requires.bad)
