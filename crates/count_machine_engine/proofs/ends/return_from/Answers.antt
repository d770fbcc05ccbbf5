use Rattle.std.proofs.Common.{Some, sym, ap, ◌∙◌}
use Rattle.count_machine_engine.proofs.Leaving.{gone-out, gone-to_caller}
use Rattle.count_machine_engine.proofs.ends.return_from.Goals as goal

pub returns-in-None : goal.returns-in-None
returns-in-None c = λ bound rest top.
    gone-out c.leave_run.result c.leave_run.new.machine c.args.ready.now bound c.args.machine.now c.args.frame.now rest c.args.operand
    (sym c.slot_count.ensures ∙ c.if-slot_count-frame.false) top (sym c.in-None.ensures) (λ e. c.leave_run.ensures c.args.ready.now bound e)

pub returns-in-Some-awaited : goal.returns-in-Some-awaited
returns-in-Some-awaited c = λ bound rest top.
    gone-to_caller c.give_back.result c.give_back.new.machine c.args.ready.now bound c.args.machine.now c.args.frame.now rest c.args.operand c.in-Some-Runs.caller c.in-Some-awaited.to
    (sym c.slot_count.ensures ∙ c.if-slot_count-frame.false) top (sym c.in-Some-Runs.ensures ∙ ap Some c.in-Some-Runs.field-0-is) (sym c.in-Some-awaited.ensures) c.give_back.ensures
