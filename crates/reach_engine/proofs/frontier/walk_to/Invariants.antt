use Rattle.std.proofs.Common.{◌<◌, length, reverse}
use Rattle.reach_engine.specs.inner.Frontier.{Climbs}
use Rattle.reach_engine.proofs.frontier.walk_to.Given as goal

abbrev pub invariant-loop-here : goal.invariant-loop-here
invariant-loop-here l = (l.here < length l.queue) × Climbs l.queue l.here (reverse l.walk.items) l.at

abbrev pub decreases-loop-here : goal.decreases-loop-here
decreases-loop-here l = l.here
