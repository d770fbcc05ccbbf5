-- What an outcome stands for, as a program has it.
use Rattle.holder_model.specs.Faults.{HolderFault}
use Rattle.holder_model.specs.Outcomes.{Outcome}
use Rattle.holder_model.specs.States as ending
use Rattle.holder_model_values.specs.RunValues.Values.{Value, chosen, grouped}
use Rattle.holder_model_values.specs.RunValues.Values as value
use Rattle.holder_model_values.specs.declared.run_values.value.Val.{Val, Val-F, fold-Val}
use Rattle.holder_model_values.specs.declared.run_values.value.Val.TheOpen.{Int, Object, Group, Chosen}
use Rattle.module_runner_report.specs.declared.outcome.Ending.{Ending}
use Rattle.module_runner_report.specs.declared.outcome.Ending.TheVariants.{Returned, Trap, OutOfTurns}
use Rattle.module_runner_report.specs.declared.outcome.RunOutcome.{RunOutcome}

abbrev pub value_over : Val-F Value → Value
value_over (Int n) = value.Int n
value_over (Object o) = value.Object o
value_over (Group members) = grouped members
value_over (Chosen case_index payload) = chosen case_index payload

-- the value that a program has
abbrev pub value_of : Val → Value
value_of v = fold-Val Value value_over v

-- its ending, which is no fault, of whichever kind the faults of a run are
abbrev pub ending_of : {X : Type 0} → Ending → ending.Ending X
ending_of (Returned v) = ending.Returned (value_of v)
ending_of (Trap t) = ending.Trapped t
ending_of OutOfTurns = ending.OutOfTurns

-- the outcome that a program has, as that of a run by holders
abbrev pub outcome_of : RunOutcome → Outcome HolderFault
outcome_of r = record { events = r.events.now; ending = ending_of r.ending.now; left = r.left.now; retains = r.retains; releases = r.releases }
