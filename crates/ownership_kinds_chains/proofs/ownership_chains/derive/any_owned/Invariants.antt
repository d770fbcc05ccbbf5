use Rattle.std.proofs.Common.{◌≡◌, take, false}
use Rattle.std.specs.List.{list_any}
use Rattle.ownership_kinds_chains.specs.OwnershipChains.Facts.{told_at, known_or, is_owned}
use Rattle.ownership_kinds_chains.proofs.ownership_chains.derive.any_owned.Given as goal

abbrev pub invariant-loop-operand : goal.invariant-loop-operand
invariant-loop-operand l = list_any (λ w. is_owned (known_or (told_at l.table) w).kind) (take l.operand-index l.operands) ≡ false
