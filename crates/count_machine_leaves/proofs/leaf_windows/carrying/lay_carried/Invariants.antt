use Rattle.std.proofs.Common.{◌≡◌, length, take}
use Rattle.std.specs.List.{flat_map}
use Rattle.count_machine_leaves.specs.LeafWindows.inner.Carried.{all_laid, carried_from}
use Rattle.count_machine_leaves.proofs.leaf_windows.carrying.lay_carried.Given as goal

abbrev pub invariant-loop-carry : goal.invariant-loop-carry
invariant-loop-carry l = record {
  begun : l.begin ≡ length (flat_map (carried_from l.from l.initial.leaves) (take l.carry-index l.values));
  laid : l.leaves ≡ all_laid (carried_from l.from l.initial.leaves) l.to (take l.carry-index l.values) l.initial.leaves;
}
