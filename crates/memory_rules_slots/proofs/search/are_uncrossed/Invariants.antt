use Rattle.std.proofs.Common.{take, All}
use Rattle.memory_rules_accesses.specs.reach_engine_marks.PathPatterns.inner.Reads.{accesses_at}
use Rattle.memory_rules_slots.specs.inner.Chunks.{slots_in}
use Rattle.memory_rules_slots.specs.inner.Searches.{IsUncrossed}
use Rattle.memory_rules_slots.proofs.search.are_uncrossed.Given as goal

abbrev pub invariant-loop-chunk : goal.invariant-loop-chunk
invariant-loop-chunk l = All (IsUncrossed l.g (accesses_at l.accesses) l.first) (slots_in (take l.chunk-index l.chunks))
