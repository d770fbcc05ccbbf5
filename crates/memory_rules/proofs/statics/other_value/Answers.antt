use Rattle.std.proofs.Common.{◌≡◌, None, Some}
use Rattle.memory_rules.proofs.OtherValue.{has_number, other_told}
use Rattle.memory_rules.proofs.statics.other_value.Goals as goal

pub returns-in-None : goal.returns-in-None
returns-in-None c = λ i at. let e : None ≡ Some i = c.in-None.ensures i at in absurd cc

pub returns-in-Some : goal.returns-in-Some
returns-in-Some c = λ i at.
    other_told c.args.m.now c.args.fault.rule i c.in-Some.inst.now c.args.fault.subject c.crossed_with.result
    (has_number c.args.fault.rule c.number.result c.number-2.result c.number.ensures c.number-2.ensures c.if-number.false) (c.in-Some.ensures i at) c.crossed_with.ensures
