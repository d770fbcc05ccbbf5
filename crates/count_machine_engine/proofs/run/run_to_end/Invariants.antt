use Rattle.count_machine_model.specs.MachineSteps.Runs.{Leads}
use Rattle.count_machine_model.specs.MachineSteps.Views.{Goes}
use Rattle.count_machine_engine.specs.inner.Work.{work}
use Rattle.count_machine_engine.proofs.run.run_to_end.Given as goal

abbrev pub invariant-loop-stop : goal.invariant-loop-stop
invariant-loop-stop l = Leads l.ready l.bound l.initial.machine (Goes l.machine)

abbrev pub decreases-loop-stop : goal.decreases-loop-stop
decreases-loop-stop l = work l.ready l.bound l.machine
