use Rattle.std.proofs.Common.{◌≡◌, ◌≤◌, ◌+◌, ◌*◌, ℕ, refl, ◌∙◌, length, arith, sym, ap}
use Rattle.sil_cfg.specs.Flow.{numbered, block_count}
use Rattle.reach_engine.specs.inner.Effects.{effect_rows}
use Rattle.reach_engine.proofs.EffectsKnown.{applied_block, effects_within}
use Rattle.reach_engine.proofs.effect.apply_rows.Goals as goal

pub apply-requires-clause-within : goal.apply-requires-clause-within
apply-requires-clause-within g c =
    let n : ℕ = c.states-states.result * ((c.states-states.result + 1) * c.args.width) in
    let most : c.args.block.0 * n + n ≤ block_count (numbered c.args.g.now) * n = effects_within c.args.block.0 (block_count (numbered c.args.g.now)) n c.requires.block in
    let same : c.states-states.result ≡ g.F.Family.state_count c.args.family.now = c.states-states.ensures in
    let size : length c.args.effects.now ≡ block_count (numbered c.args.g.now) * c.states-states.result * (effect_rows c.states-states.result * c.args.width) =
    c.requires.effects.size c.requires.some ∙ ap (λ k. block_count (numbered c.args.g.now) * k * (effect_rows k * c.args.width)) (sym same) in
    omega arith

pub returns : goal.returns
returns g c =
    applied_block (numbered c.args.g.now) (g.F.Family.step_of c.args.family.now) (g.F.Family.state_count c.args.family.now) (g.F.Family.subject_count c.args.family.now) c.args.width c.args.block.0
    c.args.effects.now _ c.states-states.result c.args.bundle.now c.apply.new.rows c.args.bad.now c.apply.new.bad
    c.requires.fits c.requires.block c.states-states.ensures c.requires.effects c.requires.some refl c.apply.ensures
