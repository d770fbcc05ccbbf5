use Rattle.std.proofs.Common.{◌≡◌, ℕ, take}
use Rattle.ownership_kinds_chains.specs.OwnershipChains.Facts.{bases_together, known_or, told_at}
use Rattle.ownership_kinds_chains.specs.OwnershipChains.inner.Settling.{AreListed}
use Rattle.ownership_kinds_chains.proofs.ownership_chains.bases.together.Given as goal

abbrev pub invariant-loop-operand : goal.invariant-loop-operand
invariant-loop-operand l = (count : ℕ) → AreListed count (told_at l.table) → l.all ≡ bases_together count l.only_guaranteed (known_or (told_at l.table)) (take l.operand-index l.operands)
