use Rattle.count_machine_layouts.specs.FrameLayouts.inner.Laid.{ByNumber}
use Rattle.count_machine_ready.specs.inner.Functions.{IsReadyAt}
use Rattle.count_machine_ready.proofs.functions.ready_functions.Given as goal

abbrev pub invariant-loop-number : goal.invariant-loop-number
invariant-loop-number l = ByNumber (IsReadyAt l.m l.reached) l.number l.functions
