use Rattle.std.proofs.Common.{◌≡◌, map, take}
use Rattle.holder_model.specs.RunTyping.EndForms.{value_in}
use Rattle.count_machine_ready.specs.inner.Bodies.{local}
use Rattle.count_machine_ready.proofs.parts.locals_of.Given as goal

abbrev pub invariant-loop-operand : goal.invariant-loop-operand
invariant-loop-operand l = l.locals ≡ map (local l.body) (map value_in (take l.operand-index l.operands))
