use Rattle.std.proofs.Common.{◌≡◌, map, take}
use Rattle.holder_model.specs.RunTyping.EndForms.{value_in}
use Rattle.count_machine_ready.proofs.parts.values_of.Given as goal

abbrev pub invariant-loop-operand : goal.invariant-loop-operand
invariant-loop-operand l = l.values ≡ map value_in (take l.operand-index l.operands)
