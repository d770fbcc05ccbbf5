use Rattle.std.proofs.Common.{◌≤◌}
use Rattle.count_machine_model.specs.MachineSteps.Runs.{Leads}
use Rattle.count_machine_model.specs.MachineSteps.Views.{Goes}
use Rattle.count_machine_engine.specs.inner.Work.{drop_work, work}
use Rattle.count_machine_engine.proofs.run.drain.Given as goal

abbrev pub invariant-loop-from : goal.invariant-loop-from
invariant-loop-from l = record {
  led : Leads l.ready l.bound l.initial.machine (Goes l.machine);
  less : work l.ready l.bound l.machine ≤ work l.ready l.bound l.initial.machine;
}

abbrev pub decreases-loop-from : goal.decreases-loop-from
decreases-loop-from l = drop_work l.machine
