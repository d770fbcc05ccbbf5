use Rattle.std.proofs.Common.{◌≡◌, ◌+◌, ◌-◌, ◌*◌, ℕ, List, take, drop, refl, ap, ◌∙◌, arith}
use Rattle.sil_cfg.specs.Flow.{numbered, items_at}
use Rattle.reach_engine.proofs.RowsMoved.{block_taken}
use Rattle.reach_engine.proofs.rows.take_block.Goals as goal

-- the part of the rows that was read is the block's
part_is : (rows : List ℕ) (b n states width : ℕ) → n ≡ states → take (b * (n * width) + n * width - b * (n * width)) (drop (b * (n * width)) rows)
    ≡ take (states * width) (drop (b * (states * width)) rows)
part_is rows b n states width e =
    let long : b * (n * width) + n * width - b * (n * width) ≡ n * width = omega arith in
    ap (λ k. take k (drop (b * (n * width)) rows)) long ∙ ap (λ k. take (k * width) (drop (b * (k * width)) rows)) e

pub returns-clause-taken : goal.returns-clause-taken
returns-clause-taken g c =
    block_taken (numbered c.args.g.now) (g.F.Family.step_of c.args.family.now) (g.F.Family.state_count c.args.family.now) (g.F.Family.subject_count c.args.family.now) c.args.width c.args.block.0 _
    c.move_rows.new.rows c.args.rows.now c.take_edges.new.rows c.args.bad.now c.move_rows.new.bad c.take_edges.new.bad
    (items_at (numbered c.args.g.now) c.args.block.0) c.take_edges.result c.requires.fits (part_is c.args.rows.now c.args.block.0 c.states.result (g.F.Family.state_count c.args.family.now)
    c.args.width c.states.ensures) refl (c.move_rows.auto.rows ∙ c.requires.bundle) c.move_rows.ensures
    c.take_edges.ensures.taken
