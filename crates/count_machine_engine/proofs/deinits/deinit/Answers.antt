use Rattle.count_machine_engine.proofs.DeinitCalled.{last-called}
use Rattle.count_machine_engine.proofs.deinits.deinit.Goals as goal

pub returns-in-None : goal.returns-in-None
returns-in-None c = λ rest top.
    last-called c.finish.result c.finish.new.machine c.args.ready.now c.args.bound c.args.machine.now c.pop_task.new.self c.args.object c.args.called rest c.class_index.result
    top c.class_index.ensures c.in-None.ensures.deinit c.pop_task.ensures (c.finish.ensures c.args.bound)
