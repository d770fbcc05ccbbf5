use Rattle.std.proofs.Common.{◌≡◌, ◌≤◌, ◌-◌, length, take, All}
use Rattle.memory_rules_slots.specs.inner.Chunks.{IsChunkOf, slots_in}
use Rattle.memory_rules_slots.proofs.chunk.chunks_of.Given as goal

abbrev pub invariant-loop-first : goal.invariant-loop-first
invariant-loop-first l = record {
  within : l.first ≤ length l.slots;
  slots : slots_in l.chunks.items ≡ take l.first l.slots;
  each : All (IsChunkOf l.accesses) l.chunks.items;
}

abbrev pub decreases-loop-first : goal.decreases-loop-first
decreases-loop-first l = length l.slots - l.first
