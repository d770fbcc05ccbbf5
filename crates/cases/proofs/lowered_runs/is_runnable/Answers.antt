use Rattle.cases.proofs.Runnable.{runnable}
use Rattle.cases.proofs.lowered_runs.is_runnable.Goals as goal

pub returns-in-Ok : goal.returns-in-Ok
returns-in-Ok c = λ is. runnable c.args.table.now c.args.m.now c.requires.numbered c.requires.table c.in-Ok.ensures.ok (rw c.as_slice.ensures at (c.are_lowered.ensures is))
