use Rattle.std.proofs.Common.{◌≡◌, ◌<◌, ◌≤◌, None}
use Rattle.std.specs.Prelude.{slice_get}
use Rattle.count_machine_model.specs.MachineSteps.Runs.{Leads}
use Rattle.count_machine_model.specs.MachineSteps.Views.{Goes}
use Rattle.count_machine_state.specs.GoingOn.{frame_of}
use Rattle.count_machine_engine.specs.inner.Work.{work}
use Rattle.count_machine_engine.proofs.run.run_frames.Given as goal

abbrev pub invariant-loop-frame : goal.invariant-loop-frame
invariant-loop-frame l = record {
  led : Leads l.ready l.bound l.initial.machine (Goes l.machine);
  less : work l.ready l.bound l.machine ≤ work l.ready l.bound l.initial.machine;
  -- a frame went on before no frame is there
  begun : None ≡ frame_of (slice_get l.machine.tasks 0) → work l.ready l.bound l.machine < work l.ready l.bound l.initial.machine;
}

abbrev pub decreases-loop-frame : goal.decreases-loop-frame
decreases-loop-frame l = work l.ready l.bound l.machine
