use Rattle.std.proofs.Common.{◌≡◌, take}
use Rattle.count_machine_leaves.specs.LeafWindows.inner.Carried.{all_marked}
use Rattle.count_machine_leaves.proofs.leaf_windows.carrying.mark_carried.Given as goal

abbrev pub invariant-loop-carry : goal.invariant-loop-carry
invariant-loop-carry l = l.there ≡ all_marked l.base (take l.carry-index l.values) l.initial.there
