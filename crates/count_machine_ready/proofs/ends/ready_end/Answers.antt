use Rattle.std.proofs.Common.{sym, subst}
use Rattle.count_machine_ready.specs.inner.Bodies.{HasEnd, declared}
use Rattle.count_machine_ready.proofs.MadeEnds.{unreachable_made}
use Rattle.count_machine_ready.proofs.ends.ready_end.Goals as goal

pub returns-in-Unreachable : goal.returns-in-Unreachable
returns-in-Unreachable c =
    unreachable_made (declared c.args.body.now) c.args.body.now.function.now c.args.inst.now
    (subst (HasEnd c.args.body.now c.args.inst.now) (sym c.in-Unreachable.ensures) c.requires.has)
