use Rattle.std.proofs.Common.{◌≡◌, take, map}
use Rattle.numbered_form.specs.ValueTables.FirstValue.{value_of}
use Rattle.ownership_kinds_origins.proofs.operands.operand_values.Given as goal

abbrev pub invariant-loop-operand : goal.invariant-loop-operand
invariant-loop-operand l = l.values ≡ map value_of (take l.operand-index l.operands)
