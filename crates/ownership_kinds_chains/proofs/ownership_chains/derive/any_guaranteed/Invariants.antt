use Rattle.std.proofs.Common.{◌≡◌, take, false}
use Rattle.std.specs.List.{list_any}
use Rattle.ownership_kinds_chains.specs.OwnershipChains.Facts.{told_at, known_or, is_guaranteed}
use Rattle.ownership_kinds_chains.proofs.ownership_chains.derive.any_guaranteed.Given as goal

abbrev pub invariant-loop-operand : goal.invariant-loop-operand
invariant-loop-operand l = list_any (λ w. is_guaranteed (known_or (told_at l.table) w).kind) (take l.operand-index l.operands) ≡ false
