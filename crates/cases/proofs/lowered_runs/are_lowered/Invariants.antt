-- The functions so far aren't in ownership form.
use Rattle.std.proofs.Common.{drop}
use Rattle.numbered_form.specs.Lists.{Each}
use Rattle.holder_model.specs.RunTyping.Runnable.{IsNotOwned}
use Rattle.cases.proofs.lowered_runs.are_lowered.Given as goal

abbrev pub invariant-loop-function : goal.invariant-loop-function
invariant-loop-function l = Each IsNotOwned (drop l.function-index l.functions) → Each IsNotOwned l.functions
