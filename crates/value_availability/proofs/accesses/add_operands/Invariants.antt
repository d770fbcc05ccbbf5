use Rattle.std.proofs.Common.{◌≡◌, ◌++◌, map, take}
use Rattle.value_availability.specs.Accesses.{used}
use Rattle.value_availability.proofs.accesses.add_operands.Given as goal

abbrev pub invariant-loop-operand : goal.invariant-loop-operand
invariant-loop-operand l = l.entries.items ≡ l.initial.entries.items ++ map used (take l.operand-index l.operands)
