use Rattle.sil_cfg.specs.Flow.{numbered}
use Rattle.reach_engine.proofs.EffectsKnown.{effects_more, effects_size, effect_read}
use Rattle.reach_engine.proofs.effect.known_effects.Goals as goal

pub loop-number-preserved : goal.loop-number-preserved
loop-number-preserved g c =
    let read = effect_read (numbered c.args.g.now) (g.F.Family.step_of c.args.family.now) (g.F.Family.state_count c.args.family.now) (g.F.Family.subject_count c.args.family.now) c.args.width
    c.states-states.result c.loop-number.number c.items_of-items.result.now c.loop-number.effects.items c.add_effect.new.effects.items
    c.states-states.ensures c.items_of-items.ensures.items c.in_ok-add_effect.ensures in
    record {
      size = effects_size (g.F.Family.step_of c.args.family.now) (g.F.Family.state_count c.args.family.now) (g.F.Family.subject_count c.args.family.now) c.args.width _ c.loop-number.number
          c.items_of-items.result.now c.loop-number.effects.items c.add_effect.new.effects.items c.loop-number.invariant.size c.in_ok-add_effect.ensures;
      are = effects_more (numbered c.args.g.now) (g.F.Family.step_of c.args.family.now) (g.F.Family.state_count c.args.family.now) (g.F.Family.subject_count c.args.family.now) c.args.width
          c.loop-number.effects.items c.add_effect.new.effects.items c.items_of-items.result.now c.loop-number.number
          c.requires.fits c.loop-number.invariant.size read.0 c.loop-number.invariant.are read.1;
    }
