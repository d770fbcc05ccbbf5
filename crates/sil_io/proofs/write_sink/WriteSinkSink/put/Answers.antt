use Rattle.sil_io.proofs.write_sink.WriteSinkSink.put.Goals as goal

pub returns-in-Err-clause-broke : goal.returns-in-Err-clause-broke
returns-in-Err-clause-broke g c = rw (← c.self.view_is) c.in-Err.ensures.broke
