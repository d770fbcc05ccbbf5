use Rattle.std.proofs.Common.{◌≡◌, map, take}
use Rattle.ownership_kinds_chains.specs.OwnershipChains.inner.Numbers.{number_of}
use Rattle.ownership_kinds_chains.proofs.ownership_chains.numbers.operand_numbers.Given as goal

abbrev pub invariant-loop-operand : goal.invariant-loop-operand
invariant-loop-operand l = l.numbers ≡ map number_of (take l.operand-index l.operands)
