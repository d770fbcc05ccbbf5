use Rattle.reach_engine.proofs.EffectsApplied.{Adding}
use Rattle.reach_engine.proofs.effect.add_row.Given as goal

abbrev pub invariant-loop-state : goal.invariant-loop-state
invariant-loop-state l = Adding l.states l.width l.row l.effects l.from l.initial.rows l.rows l.state
