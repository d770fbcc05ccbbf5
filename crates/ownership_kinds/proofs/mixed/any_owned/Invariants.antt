use Rattle.std.proofs.Common.{◌≡◌, take, false}
use Rattle.std.specs.List.{list_any}
use Rattle.ownership_kinds.specs.inner.Known.{kind_told}
use Rattle.ownership_kinds.specs.Statics.{is_owned}
use Rattle.ownership_kinds.proofs.mixed.any_owned.Given as goal

abbrev pub invariant-loop-operand : goal.invariant-loop-operand
invariant-loop-operand l = list_any (λ o. is_owned (kind_told l.facts o.value)) (take l.operand-index l.operands) ≡ false
