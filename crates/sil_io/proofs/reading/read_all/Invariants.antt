use Rattle.std.proofs.Common.{◌≡◌, ◌+◌, ◌≤◌, vec_len, ◌-◌}
use Rattle.std.specs.Io.KnownBytes.{Consumes}
use Rattle.sil_io.specs.Reading.{Gives}
use Rattle.sil_io.proofs.reading.read_all.Given as goal

-- the bytes so far are those that were taken, and no take failed yet
abbrev pub invariant-pieces : goal.invariant-pieces
invariant-pieces g l = record {
  within : vec_len l.bytes ≤ l.limit;
  taken : Consumes (g.S.Source.left l.initial.src) (g.S.Source.left l.src) l.bytes.items;
  takes : Gives g.S.Source.gave l.initial.src l.bytes.items l.src;
  same_count : g.S.Source.faults l.src ≡ g.S.Source.faults l.initial.src;
  some_room : 1 ≤ vec_len l.chunk;
}

abbrev pub decreases-pieces : goal.decreases-pieces
decreases-pieces g l = l.limit + 1 - vec_len l.bytes
