use Rattle.std.proofs.Common.{◌≡◌, ◌++◌, map, take}
use Rattle.sil_cfg_items.specs.Roles.{by_row, taken_as}
use Rattle.sil_cfg_items.proofs.taken.add_alike.Given as goal

abbrev pub invariant-loop-operand : goal.invariant-loop-operand
invariant-loop-operand l = l.taken.items ≡ l.initial.taken.items ++ map (λ o. taken_as o (by_row l.role)) (take l.operand-index l.operands)
