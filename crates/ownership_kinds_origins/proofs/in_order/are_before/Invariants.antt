use Rattle.std.proofs.Common.{◌<◌, take}
use Rattle.std.specs.Prelude.{All}
use Rattle.ownership_kinds_origins.proofs.in_order.are_before.Given as goal

abbrev pub invariant-loop-operand : goal.invariant-loop-operand
invariant-loop-operand l = All (λ o. o.value.0 < l.number) (take l.operand-index l.operands)
