use Rattle.count_machine_model.specs.ReadyCode.ReadyModules.{Reaches}
use Rattle.count_machine_layouts.specs.ReachedFunctions.inner.Reaching.{MarksTo}
use Rattle.count_machine_layouts.proofs.reached_functions.reached.mark_all.Given as goal

abbrev pub invariant-loop-function : goal.invariant-loop-function
invariant-loop-function l = MarksTo Reaches l.functions l.function-index l.initial.reached l.initial.waiting.items l.reached l.waiting.items
