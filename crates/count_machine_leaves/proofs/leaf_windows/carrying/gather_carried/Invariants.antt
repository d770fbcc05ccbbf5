use Rattle.std.proofs.Common.{◌≡◌, take}
use Rattle.std.specs.List.{flat_map}
use Rattle.count_machine_leaves.specs.LeafWindows.inner.Carried.{carried_from}
use Rattle.count_machine_leaves.proofs.leaf_windows.carrying.gather_carried.Given as goal

abbrev pub invariant-loop-carry : goal.invariant-loop-carry
invariant-loop-carry l = l.moving.items ≡ flat_map (carried_from l.base l.leaves) (take l.carry-index l.values)
