-- The two ends of writing a text.
use Rattle.sil_command.specs.Ends.{whole, front}
use Rattle.sil_command.proofs.top_call.finish.Goals as goal

pub returns-in-Ok : goal.returns-in-Ok
returns-in-Ok g c = rw c.code.ensures (whole (c.in-Ok.ensures.all, c.in-Ok.ensures.puts) c.in-Ok.ensures.no_fault)

pub returns-in-Err : goal.returns-in-Err
returns-in-Err g c =
    rw c.code-in-Err.ensures
    (front (c.in-Err._fault.written, c.in-Err.ensures.not_all, c.in-Err.ensures.written, c.in-Err.ensures.refused) c.in-Err.ensures.fault)
