use Rattle.count_machine_model.specs.ReadyCode.ReadyModules.{Reaches}
use Rattle.count_machine_layouts.specs.ReachedFunctions.inner.Reaching.{HoldsOfDeinits, MarksTo}
use Rattle.count_machine_layouts.proofs.reached_functions.reached.mark_deinits.Given as goal

abbrev pub invariant-loop-class : goal.invariant-loop-class
invariant-loop-class l =
    MarksTo (λ r. HoldsOfDeinits (Reaches r)) l.classes l.class-index l.initial.reached l.initial.waiting.items l.reached l.waiting.items
