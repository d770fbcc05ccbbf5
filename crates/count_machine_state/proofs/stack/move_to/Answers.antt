use Rattle.std.proofs.Common.{arith}
use Rattle.count_machine_state.proofs.Raised.{frames_moved, moved_is}
use Rattle.count_machine_state.proofs.stack.move_to.Goals as goal

pub returns-in-Runs-clause-frames : goal.returns-in-Runs-clause-frames
returns-in-Runs-clause-frames c = frames_moved c.args.block c.args.tasks.now _ c.in-Runs.frame (omega arith) c.in-Runs.is

pub returns-in-Runs-clause-moved : goal.returns-in-Runs-clause-moved
returns-in-Runs-clause-moved c = moved_is c.args.block c.args.tasks.now _ c.in-Runs.frame (omega arith) c.in-Runs.is
