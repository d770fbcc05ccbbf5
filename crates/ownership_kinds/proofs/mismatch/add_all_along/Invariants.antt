use Rattle.std.proofs.Common.{◌≡◌, ◌++◌, take}
use Rattle.std.specs.List.{flat_map}
use Rattle.sil_cfg_items.specs.Roles.{taken_along}
use Rattle.ownership_kinds.proofs.mismatch.add_all_along.Given as goal

abbrev pub invariant-loop-edge : goal.invariant-loop-edge
invariant-loop-edge l = l.taken.items ≡ l.initial.taken.items ++ flat_map taken_along (take l.edge-index l.edges)
