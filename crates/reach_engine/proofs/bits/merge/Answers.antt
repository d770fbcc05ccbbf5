use Rattle.std.proofs.Common.{◌≡◌, ◌<◌, ◌+◌, length, arith, refl, inl, inr}
use Rattle.reach_engine.proofs.BitLists.{merge_more, merged_inside}
use Rattle.reach_engine.proofs.bits.merge.Goals as goal
use Rattle.reach_engine.proofs.bits.merge.Goals.{then-word-old, else-word-old}

pub loop-i-preserved : goal.loop-i-preserved
loop-i-preserved c =
    let size : length c.loop-i.rows ≡ length c.args.rows.now = c.loop-i.invariant.size in
    let lt : c.args.offset + c.loop-i.i < length c.loop-i.rows = omega arith in
    merge_more c.args.rows.now c.loop-i.rows c.args.bundle.now c.args.offset c.loop-i.i _ c.loop-i.is_new c.if-word-old.is_new c.loop-i.invariant lt refl
    (elim c.if-word-old.branch [ then-word-old w ↦ inl (w.if-word-old.true, w.is_new-is) | else-word-old w ↦ inr (w.if-word-old.false, w.is_new-is) ])

pub returns-clause-inside : goal.returns-clause-inside
returns-clause-inside c = merged_inside c.args.rows.now c.loop-i.rows c.args.bundle.now c.args.offset c.loop-i.i c.loop-i.is_new c.loop-i.invariant (omega arith)
