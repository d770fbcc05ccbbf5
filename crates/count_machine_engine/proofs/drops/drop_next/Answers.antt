use Rattle.count_machine_engine.proofs.Dropped.{next-dropped}
use Rattle.count_machine_engine.proofs.drops.drop_next.Goals as goal

pub returns : goal.returns
returns c = λ ready rest top.
    next-dropped c.release.result c.release.new.machine ready c.args.bound c.args.machine.now c.next_waiting.new.self c.end_drop.new.self c.args.from rest c.in-Some.object
    top c.in-Some.ensures.next c.in-Some.ensures.rest c.end_drop.ensures (c.release.ensures ready)
