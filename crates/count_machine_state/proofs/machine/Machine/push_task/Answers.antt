use Rattle.std.proofs.Common.{arith}
use Rattle.count_machine_state.proofs.Tasks.{frames_in-reverse}
use Rattle.count_machine_state.proofs.machine.Machine.push_task.Goals as goal

pub overflow_add-self : goal.overflow_add-self
overflow_add-self c = let ts = c.self.inside.tasks in omega (arith, frames_in-reverse ts.items, ts.ok.0, c.in_ok-push.ensures.len)
