-- Slots that are searched together, and what their searches show.
use Rattle.std.specs.Prelude.{◌≡◌, ℕ, ◌<◌, ◌≤◌, List, length, Contains}
use Rattle.std.specs.List.{flat_map}
use Rattle.std.specs.declared.alloc.Global.{Global}
use Rattle.std.specs.declared.vec.Vec.{Vec}
use Rattle.sil_ast.specs.declared.place.ValueId.{ValueId}
use Rattle.memory_rules_accesses.specs.reach_engine_marks.PathPatterns.inner.Reads.{accesses_at}
use Rattle.memory_rules_slots.specs.inner.Touched.{IsRising}
use Rattle.memory_rules_accesses.specs.declared.access.Access.{Access}
use Rattle.memory_rules_slots.specs.inner.Touched.{HasTouched}
use Rattle.memory_rules_slots.specs.declared.chunk.Chunk.{Chunk}

-- a few slots, and for each item the places of those that it touches
pub record IsChunkOf (accesses : List (Vec Access Global)) (chunk : Chunk) : Type 0 where
  pub few : length chunk.slots.items ≤ 1024
  pub size : length chunk.touched.items ≡ length accesses
  pub rising : (i : ℕ) → IsRising (length chunk.slots.items) (accesses_at chunk.touched.items i)
  pub touched : (i : ℕ) → HasTouched chunk.slots.items (accesses_at accesses i) (accesses_at chunk.touched.items i)
  pub all_rising : IsRising (length chunk.slots.items) chunk.all.items
  pub all : (u : ℕ) → u < length chunk.slots.items → (Contains chunk.all.items u → ⊥) → ⊥

-- the slots of all chunks
abbrev pub slots_in : List Chunk → List ValueId
slots_in chunks = flat_map (λ c. c.slots.items) chunks
