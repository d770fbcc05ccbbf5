use Rattle.std.proofs.Common.{◌+◌, length, not}
use Rattle.std.specs.Prelude.{count_by}
use Rattle.count_machine_layouts.specs.ReachedFunctions.inner.Reaching.{Searches}
use Rattle.count_machine_layouts.proofs.reached_functions.reached.follow_all.Given as goal

abbrev pub invariant-loop-function : goal.invariant-loop-function
invariant-loop-function l = Searches l.m l.initial.reached l.reached l.waiting.items

abbrev pub decreases-loop-function : goal.decreases-loop-function
decreases-loop-function l = count_by not l.reached + length l.waiting.items
