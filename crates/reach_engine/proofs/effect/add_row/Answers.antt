use Rattle.std.proofs.Common.{◌+◌, ◌-◌, ◌*◌, ℕ, refl, arith}
use Rattle.reach_engine.proofs.EffectsApplied.{add_none, add_more}
use Rattle.reach_engine.proofs.effect.add_row.Goals as goal

pub loop-state-init : goal.loop-state-init
loop-state-init c = add_none c.args.states c.args.width c.args.row.now c.args.effects.now c.args.from c.args.rows.now

pub loop-state-preserved : goal.loop-state-preserved
loop-state-preserved c =
    let start : ℕ = c.args.from + c.loop-state.state * c.args.width in
    add_more c.args.states c.args.width c.args.row.now c.args.effects.now _ c.args.from c.args.rows.now c.loop-state.rows c.merge_masked.new.words c.loop-state.state start
    (start + c.args.width - start)
    c.requires.row refl (omega arith) refl c.loop-state.invariant c.merge_masked.auto.words c.merge_masked.ensures.inside c.merge_masked.ensures.below c.merge_masked.ensures.above
