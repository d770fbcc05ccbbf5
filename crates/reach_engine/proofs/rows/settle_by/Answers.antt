use Rattle.std.proofs.Common.{◌+◌, ◌<◌, ℕ, List, Bool, cond, subst, sym, arith}
use Rattle.sil_cfg.specs.Flow.{numbered, block_count}
use Rattle.reach_engine.specs.inner.Reached.{Swept, work_left, cap_of}
use Rattle.reach_engine.proofs.DirtyBlocks.{swept_closed, swept_less}
use Rattle.reach_engine.proofs.rows.settle_by.Goals as goal

pub loop-changed-preserved : goal.loop-changed-preserved
loop-changed-preserved g c = record {
  settled = c.sweep-changed.ensures.settled;
  closed = λ e.
      let P : Bool → Type 0 = λ v. Swept (numbered c.args.g.now) (g.F.Family.step_of c.args.family.now) (g.F.Family.state_count c.args.family.now) (g.F.Family.subject_count c.args.family.now)
      c.args.width c.loop-changed.rows c.sweep-changed.new.rows c.sweep-changed.new.bad c.loop-changed.dirty c.sweep-changed.new.dirty (block_count (numbered c.args.g.now)) v in
      swept_closed (numbered c.args.g.now) (g.F.Family.step_of c.args.family.now) (g.F.Family.state_count c.args.family.now) (g.F.Family.subject_count c.args.family.now) c.args.width
      c.loop-changed.rows c.sweep-changed.new.rows c.sweep-changed.new.bad c.loop-changed.dirty c.sweep-changed.new.dirty (block_count (numbered c.args.g.now)) (omega arith)
      (subst P e c.sweep-changed.ensures);
}

pub loop-changed-smaller : goal.loop-changed-smaller
loop-changed-smaller g c =
    let w : List ℕ → List Bool → ℕ = work_left (cap_of (numbered c.args.g.now) (g.F.Family.state_count c.args.family.now) c.args.width) (block_count (numbered c.args.g.now)) in
    subst (λ v. w c.sweep-changed.new.rows c.sweep-changed.new.dirty + cond {A = ℕ} c.sweep-changed.result 1 0 < w c.loop-changed.rows c.loop-changed.dirty + cond {A = ℕ} v 1 0)
    (sym c.loop-changed-test.true)
    (swept_less (numbered c.args.g.now) (g.F.Family.step_of c.args.family.now) (g.F.Family.state_count c.args.family.now) (g.F.Family.subject_count c.args.family.now) c.args.width c.loop-changed.rows
    c.sweep-changed.new.rows c.sweep-changed.new.bad c.loop-changed.dirty c.sweep-changed.new.dirty (block_count (numbered c.args.g.now)) c.sweep-changed.result c.sweep-changed.ensures)
