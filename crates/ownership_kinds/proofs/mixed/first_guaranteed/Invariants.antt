use Rattle.std.proofs.Common.{◌≡◌, drop, find, map}
use Rattle.numbered_form.specs.ValueTables.FirstValue.{value_of}
use Rattle.ownership_kinds.specs.inner.Known.{kind_told}
use Rattle.ownership_kinds.specs.Statics.{is_guaranteed}
use Rattle.ownership_kinds.proofs.mixed.first_guaranteed.Given as goal

abbrev pub invariant-loop-operand : goal.invariant-loop-operand
invariant-loop-operand l =
    find (λ v. is_guaranteed (kind_told l.facts v)) (map value_of (drop l.operand-index l.operands)) ≡ find (λ v. is_guaranteed (kind_told l.facts v)) (map value_of l.operands)
