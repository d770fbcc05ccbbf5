-- The ending that is reported of a run of lowered code. A fault has none.
use Rattle.std.specs.Prelude.{⊤}
use Rattle.count_machine.specs.declared.low_run.LowEnd.{LowEnd}
use Rattle.count_machine.specs.declared.low_run.LowEnd.TheVariants as end
use Rattle.module_runner_report.specs.declared.outcome.Ending.{Ending}
use Rattle.module_runner_report.specs.declared.outcome.Ending.TheVariants.{Returned, Trap, OutOfTurns}

abbrev pub IsNoFault : LowEnd → Type 0
IsNoFault (end.Returned v) = ⊤
IsNoFault (end.Trap t) = ⊤
IsNoFault end.OutOfTurns = ⊤
IsNoFault (end.Fault x) = ⊥

-- the ending of which this is reported
abbrev pub end_of : Ending → LowEnd
end_of (Returned v) = end.Returned v
end_of (Trap t) = end.Trap t
end_of OutOfTurns = end.OutOfTurns
