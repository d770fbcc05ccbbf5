use Rattle.count_machine_layouts.specs.FrameLayouts.inner.Laid.{ByNumber, IsLaid}
use Rattle.count_machine_layouts.proofs.frame_layouts.layouts.layouts_of.Given as goal

abbrev pub invariant-loop-number : goal.invariant-loop-number
invariant-loop-number l = ByNumber (IsLaid l.m l.reached) l.number l.layouts
