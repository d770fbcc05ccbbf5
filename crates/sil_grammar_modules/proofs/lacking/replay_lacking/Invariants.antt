-- The steps from here on are replayed.
use Rattle.std.proofs.Common.{◌≡◌, [], drop}
use Rattle.sil_grammar_modules.specs.inner.Replay.{replay}
use Rattle.sil_grammar_modules.proofs.lacking.replay_lacking.Given as goal

abbrev pub invariant-loop-i : goal.invariant-loop-i
invariant-loop-i l = l.values ≡ replay (drop l.i l.steps) []
