use Rattle.std.proofs.Common.{◌≡◌, ◌++◌, drop}
use Rattle.count_machine_layouts.specs.FrameLayouts.inner.Carried.{addresses_between}
use Rattle.count_machine_layouts.proofs.frame_layouts.carried.addresses_carried.Given as goal

abbrev pub invariant-loop-k : goal.invariant-loop-k
invariant-loop-k l = l.addresses ++ addresses_between l.from l.to (drop l.k l.operands) (drop l.k l.args) ≡ addresses_between l.from l.to l.operands l.args
