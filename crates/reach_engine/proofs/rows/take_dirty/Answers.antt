use Rattle.std.proofs.Common.{◌≡◌, ◌≤◌, ◌*◌, ◌^◌, length, set, sum, refl, ◌∙◌, subst, true, false, arith}
use Rattle.std.proofs.lemmas.List.{length-set}
use Rattle.sil_cfg.specs.Flow.{numbered, block_count}
use Rattle.reach_engine.specs.inner.Reached.{is_dirty, cap_of}
use Rattle.reach_engine.proofs.RowsAreSound.{sum_words}
use Rattle.reach_engine.proofs.DirtyBlocks.{dirty_taken}
use Rattle.reach_engine.proofs.rows.take_dirty.Goals as goal

pub returns : goal.returns
returns g c =
    let size : length c.take_block.new.rows ≡ block_count (numbered c.args.g.now) * (g.F.Family.state_count c.args.family.now * c.args.width) =
    c.take_block.auto.rows ∙ c.requires.settled.so_far.size in
    let words : sum c.take_block.new.rows ≤ length c.take_block.new.rows * 2 ^ 64 = sum_words c.take_block.new.rows (λ i. omega (arith, c.type_inv.rows i)) in
    let bound : sum c.take_block.new.rows ≤ cap_of (numbered c.args.g.now) (g.F.Family.state_count c.args.family.now) c.args.width = subst (λ n. sum c.take_block.new.rows ≤ n * 2 ^ 64) size words in
    let was : is_dirty c.args.dirty.now c.args.block.0 ≡ true = c.if-not-dirty-at.false in
    dirty_taken (numbered c.args.g.now) (g.F.Family.step_of c.args.family.now) (g.F.Family.state_count c.args.family.now) (g.F.Family.subject_count c.args.family.now) c.args.width c.args.block.0
    c.args.rows.now c.take_block.new.rows c.args.bad.now c.take_block.new.bad c.args.dirty.now (set c.args.dirty.now c.args.block.0 false) c.take_block.new.dirty c.take_block.result
    c.requires.block c.requires.fits c.take_block.auto.rows c.take_block.auto.bad (c.take_block.auto.dirty ∙ length-set c.args.dirty.now c.args.block.0 false) bound c.requires.settled was refl
    c.take_block.ensures.taken c.take_block.ensures.marks
