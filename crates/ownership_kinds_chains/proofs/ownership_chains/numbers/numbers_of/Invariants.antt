use Rattle.std.proofs.Common.{◌≡◌, map, take}
use Rattle.ownership_kinds_chains.specs.OwnershipChains.inner.Numbers.{operand_numbers}
use Rattle.ownership_kinds_chains.proofs.ownership_chains.numbers.numbers_of.Given as goal

abbrev pub invariant-loop-def : goal.invariant-loop-def
invariant-loop-def l = l.graph ≡ map operand_numbers (take l.def-index l.defs)
