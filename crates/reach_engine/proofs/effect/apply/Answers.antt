use Rattle.std.proofs.Common.{◌+◌, ◌-◌, ◌*◌, ℕ, refl, arith, ◌∙◌}
use Rattle.reach_engine.proofs.EffectsApplied.{apply_none, apply_more}
use Rattle.reach_engine.proofs.effect.apply.Goals as goal

pub loop-state-init : goal.loop-state-init
loop-state-init c = record {
  size = refl;
  bad_size = refl;
  applied = apply_none c.args.states c.args.width c.args.effects.now c.args.from c.args.bundle.now c.args.rows.now c.args.bad.now c.requires.clear;
}

pub loop-state-preserved : goal.loop-state-preserved
loop-state-preserved c =
    let start : ℕ = c.loop-state.state * c.args.width in
    record {
      size = c.add_row.auto.rows ∙ c.loop-state.invariant.size;
      bad_size = c.add_bad.auto.bad ∙ c.loop-state.invariant.bad_size;
      applied = apply_more c.args.states c.args.width c.args.effects.now c.args.from c.args.bundle.now _ c.loop-state.rows c.add_row.new.rows c.args.bad.now c.loop-state.bad
          c.add_bad.new.bad c.loop-state.state
          _ start (start + c.args.width - start) c.loop-state-test.true refl refl (omega arith) refl c.loop-state.invariant.applied c.add_row.ensures c.add_bad.ensures.inside c.add_bad.ensures.above;
    }
