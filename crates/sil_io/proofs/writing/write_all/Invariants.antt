use Rattle.std.proofs.Common.{length, ◌-◌, ◌≡◌, ◌≤◌, take}
use Rattle.std.specs.Io.KnownBytes.{Appends}
use Rattle.sil_io.specs.Writing.{Puts}
use Rattle.sil_io.proofs.writing.write_all.Given as goal

-- the first bytes are appended, and no put failed yet
abbrev pub invariant-loop-written : goal.invariant-loop-written
invariant-loop-written g l = record {
  within : l.written ≤ length l.bytes;
  appended : Appends (g.K.Sink.held l.initial.sink) (g.K.Sink.held l.sink) (take l.written l.bytes);
  puts : Puts g.K.Sink.took l.bytes l.initial.sink l.written l.sink;
  same_count : g.K.Sink.faults l.sink ≡ g.K.Sink.faults l.initial.sink;
}

abbrev pub decreases-loop-written : goal.decreases-loop-written
decreases-loop-written g l = length l.bytes - l.written
