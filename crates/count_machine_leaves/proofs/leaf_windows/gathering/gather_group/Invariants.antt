use Rattle.std.proofs.Common.{◌≡◌, take}
use Rattle.std.specs.List.{flat_map}
use Rattle.count_machine_leaves.specs.LeafWindows.inner.Grouped.{leaves_from}
use Rattle.count_machine_leaves.proofs.leaf_windows.gathering.gather_group.Given as goal

abbrev pub invariant-loop-local : goal.invariant-loop-local
invariant-loop-local l = l.moving.items ≡ flat_map (leaves_from l.base l.leaves) (take l.local-index l.operands)
