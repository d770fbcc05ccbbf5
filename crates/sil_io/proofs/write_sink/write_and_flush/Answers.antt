use Rattle.std.proofs.Common.{arith}
use Rattle.sil_io.specs.inner.Calls.{in_flush}
use Rattle.sil_io.proofs.write_sink.write_and_flush.Goals as goal

pub returns-in-Err-clause-broke : goal.returns-in-Err-clause-broke
returns-in-Err-clause-broke g c = in_flush _ _ c.in-Ok.ensures.one_write (omega arith) c.in-Err.ensures.one_failure
