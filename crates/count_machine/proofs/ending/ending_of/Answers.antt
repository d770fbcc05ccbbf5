use Rattle.std.proofs.Common.{sym, subst}
use Rattle.holder_model.specs.declared.trap.Trap.TheVariants as trap
use Rattle.holder_model.specs.RunTyping.Forms.{given_shape}
use Rattle.sil_types_declarations.specs.TypeDefinitions.Declarations.{declarations_of}
use Rattle.count_machine.specs.ValueReading.inner.Reading.{IsValueOf}
use Rattle.count_machine.specs.declared.low_run.LowEnd.TheVariants as end
use Rattle.count_machine.specs.inner.Stopped.{IsToldAs}
use Rattle.count_machine.proofs.Endings.{message_told, returned_told}
use Rattle.count_machine.proofs.ending.ending_of.Goals as goal

pub returns-in_ok-value-in-Returned : goal.returns-in_ok-value-in-Returned
returns-in_ok-value-in-Returned c =
    let m = c.args.m.now in
    let s = given_shape (declarations_of m) c.args.entry.now in
    let v = c.in_ok-value-in-Returned.value in
    let is = subst (λ d. IsValueOf (given_shape d c.args.entry.now) c.returned.result.now v) c.requires.of_it c.in_ok-value-in-Returned.ensures in
    subst (λ stop. IsToldAs m s c.args.machine.now stop (end.Returned v)) (sym c.in-Returned.is)
    (returned_told m s c.args.machine.now c.in-Returned.operand c.returned.result.now v c.returned.ensures is)

pub returns-in_ok-text-in-CondFail : goal.returns-in_ok-text-in-CondFail
returns-in_ok-text-in-CondFail c =
    let m = c.args.m.now in
    let s = given_shape (declarations_of m) c.args.entry.now in
    let text = c.in_ok-text-in-CondFail.text in
    subst (λ stop. IsToldAs m s c.args.machine.now stop (end.Trap (trap.CondFail text))) (sym c.in-CondFail.is)
    (message_told m s c.args.machine.now c.in-CondFail.function c.in-CondFail.point text c.in_ok-text-in-CondFail.ensures)
