use Rattle.std.proofs.Common.{◌≡◌, ◌*◌, length}
use Rattle.sil_cfg.specs.Flow.{numbered}
use Rattle.reach_engine.specs.inner.Effects.{effect_rows, AreEffects}
use Rattle.reach_engine.proofs.effect.known_effects.Given as goal

abbrev pub invariant-loop-number : goal.invariant-loop-number
invariant-loop-number g l = record {
  size : length l.effects.items ≡ l.number * (effect_rows (g.F.Family.state_count l.family) * l.width);
  are : AreEffects (numbered l.g) (g.F.Family.step_of l.family) (g.F.Family.state_count l.family) (g.F.Family.subject_count l.family) l.width l.effects.items l.number;
}
