use Rattle.std.proofs.Common.{arith}
use Rattle.count_machine_state.proofs.Raised.{frames_raised, raised_is}
use Rattle.count_machine_state.proofs.stack.raise_index.Goals as goal

pub returns-else-frame-clause-frames : goal.returns-else-frame-clause-frames
returns-else-frame-clause-frames c = frames_raised c.args.tasks.now _ c.in-Runs.frame (omega arith) c.in-Runs.is

pub returns-else-frame-clause-raised : goal.returns-else-frame-clause-raised
returns-else-frame-clause-raised c = raised_is c.args.tasks.now _ c.in-Runs.frame (omega arith) c.in-Runs.is
