use Rattle.std.proofs.Common.{take}
use Rattle.memory_rules_accesses.specs.reach_engine_marks.PathPatterns.inner.Reads.{accesses_at}
use Rattle.memory_rules_slots.specs.inner.Searches.{IsNearest}
use Rattle.memory_rules_slots.proofs.nearest.nearest_crossing.Given as goal

abbrev pub invariant-loop-second : goal.invariant-loop-second
invariant-loop-second l = IsNearest l.g (accesses_at l.accesses) l.first (take l.second-index l.slots) l.best
