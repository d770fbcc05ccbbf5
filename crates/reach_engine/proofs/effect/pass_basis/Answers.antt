use Rattle.std.proofs.Common.{◌∙◌}
use Rattle.reach_engine.proofs.EffectsKnown.{basis_set, basis_moved}
use Rattle.reach_engine.proofs.effect.pass_basis.Goals as goal

pub returns : goal.returns
returns g c =
    basis_moved (g.F.Family.step_of c.args.family.now) (g.F.Family.state_count c.args.family.now) (g.F.Family.subject_count c.args.family.now) c.args.width c.args.state c.args.items.now
    c.set_words.new.words c.pass_all.new.bundle c.args.bad.now c.pass_all.new.bad
    c.requires.fits c.requires.state (c.pass_all.auto.bundle ∙ c.set_words.auto.words ∙ c.requires.size)
    (basis_set (g.F.Family.state_count c.args.family.now) c.args.width c.args.state c.args.bundle.now c.set_words.new.words c.requires.bundle c.set_words.ensures.inside c.set_words.ensures.below
    c.set_words.ensures.above)
    c.requires.bad c.pass_all.ensures
