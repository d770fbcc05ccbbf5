use Rattle.std.proofs.Common.{inl, inr}
use Rattle.sil_cfg.specs.Flow.{numbered}
use Rattle.reach_engine.proofs.DirtyBlocks.{swept_none, swept_more}
use Rattle.reach_engine.proofs.rows.sweep.Goals as goal
use Rattle.reach_engine.proofs.rows.sweep.Goals.{then-take_dirty, else-take_dirty}

pub loop-block-init : goal.loop-block-init
loop-block-init g c = swept_none (numbered c.args.g.now) (g.F.Family.step_of c.args.family.now) (g.F.Family.state_count c.args.family.now) (g.F.Family.subject_count c.args.family.now) c.args.width
    c.args.rows.now c.args.bad.now c.args.dirty.now c.requires.settled

pub loop-block-preserved : goal.loop-block-preserved
loop-block-preserved g c =
    swept_more (numbered c.args.g.now) (g.F.Family.step_of c.args.family.now) (g.F.Family.state_count c.args.family.now) (g.F.Family.subject_count c.args.family.now) c.args.width c.args.rows.now
    c.loop-block.rows c.take_dirty.new.rows c.loop-block.bad c.take_dirty.new.bad c.args.dirty.now c.loop-block.dirty c.take_dirty.new.dirty c.loop-block.block c.loop-block.changed
    c.take_dirty.result c.if-take_dirty.changed
    c.loop-block.invariant c.take_dirty.ensures
    (elim c.if-take_dirty.branch [ then-take_dirty w ↦ inl (w.if-take_dirty.true, w.changed-is) | else-take_dirty w ↦ inr (w.if-take_dirty.false, w.changed-is) ])

pub take_dirty-requires-clause-settled : goal.take_dirty-requires-clause-settled
take_dirty-requires-clause-settled g c = c.loop-block.invariant.settled
