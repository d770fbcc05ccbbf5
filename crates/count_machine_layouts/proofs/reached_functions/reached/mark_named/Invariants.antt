use Rattle.count_machine_model.specs.ReadyCode.ReadyModules.{Reaches}
use Rattle.count_machine_layouts.specs.ReachedFunctions.inner.Reaching.{HoldsOfNamed, MarksTo}
use Rattle.count_machine_layouts.proofs.reached_functions.reached.mark_named.Given as goal

abbrev pub invariant-loop-function : goal.invariant-loop-function
invariant-loop-function l =
    MarksTo (λ r. HoldsOfNamed (Reaches r)) l.named l.function-index l.initial.reached l.initial.waiting.items l.reached l.waiting.items
