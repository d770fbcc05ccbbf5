use Rattle.std.proofs.Common.{◌≡◌, ◌<◌, ◌≤◌, ◌-◌, ◌^◌, ◌∷◌, Some, length, drop}
use Rattle.count_machine_model.specs.MachineSteps.Ends.{block_at}
use Rattle.count_machine_model.specs.MachineSteps.Runs.{Leads}
use Rattle.count_machine_model.specs.MachineSteps.Views.{Goes}
use Rattle.count_machine_model.specs.declared.machine_steps.frame.Task.TheVariants.{Runs}
use Rattle.count_machine_engine.specs.inner.Work.{work}
use Rattle.count_machine_engine.proofs.run.run_block.Given as goal

abbrev pub invariant-loop-frame : goal.invariant-loop-frame
invariant-loop-frame l = record {
  top : l.machine.tasks ≡ Runs l.frame ∷ drop 1 l.initial.machine.tasks;
  led : Leads l.ready l.bound l.initial.machine (Goes l.machine);
  less : work l.ready l.bound l.machine ≤ work l.ready l.bound l.initial.machine;
  block : block_at l.ready l.frame.function l.frame.block ≡ Some l.block;
  small : l.frame.index < 2 ^ 32;
}

abbrev pub decreases-loop-frame : goal.decreases-loop-frame
decreases-loop-frame l = length l.ops - l.frame.index
