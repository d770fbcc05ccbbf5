-- What holds of a heap's memory.
use Rattle.std.specs.Prelude.{◌≡◌, ◌<◌, ◌≤◌, ◌+◌, ℕ, List, Some, false, true, is_some, count_by, length, option_map}
use Rattle.sil_types.specs.sil_types_declarations.TypeDefinitions.Declarations.{Declarations}
use Rattle.holder_model_values.specs.RunValues.Memory.{is_dead_phase}
use Rattle.weak_unowned.specs.Sides.{idle_count, is_idle_at, sides_at}
use Rattle.weak_unowned.specs.declared.side.SlotSides.{SlotSides}
use Rattle.number_tables.specs.TableByNumber.Numbers.{Numbers, slot_in}
use Rattle.count_heap.specs.PooledLeaves.Pieces.{Pieces, piece_in}
use Rattle.count_heap.specs.LayoutsByClass.ClassFields.{leaves_by_field}
use Rattle.count_heap.specs.LayoutsByClass.Layouts.{size_of}
use Rattle.count_heap.specs.declared.slot_record.SlotRecord.{SlotRecord}
use Rattle.count_heap.specs.inner.Objects.{record_at}

-- the slot's object isn't dead
abbrev pub IsAlive : List SlotRecord → ℕ → Type 0
IsAlive records s = is_dead_phase (record_at records s).phase ≡ false

-- a slot that an object has is marked just where the object is dead, and isn't idle. An object that isn't dead has a piece, of the size of its class
pub record IsKept (d : Declarations) (records : List SlotRecord) (sides : List SlotSides) (pieces : Pieces) (s : ℕ) : Type 0 where
  pub there : s < length sides
  pub marked : (sides_at sides s).marked ≡ is_dead_phase (record_at records s).phase
  pub taken : is_idle_at sides s ≡ false
  pub piece : IsAlive records s → option_map (λ ls. length ls) (piece_in pieces (record_at records s).piece) ≡ Some (size_of (leaves_by_field d
      (record_at records s).class))

-- the piece is that of an object that isn't dead
abbrev pub HasOwner : Numbers → List SlotRecord → ℕ → Type 0
HasOwner t records p = (n : ℕ) × (s : ℕ) × (slot_in t n ≡ Some s) × IsAlive records s × ((record_at records s).piece ≡ p)

pub record IsHeap (d : Declarations) (t : Numbers) (records : List SlotRecord) (sides : List SlotSides) (pieces : Pieces) : Type 0 where
  pub slots : length sides ≤ t.slots
  pub records_are : length sides ≤ length records
  pub kept : (n s : ℕ) → slot_in t n ≡ Some s → IsKept d records sides pieces s
  -- no two objects have one piece
  pub apart : (n m s u : ℕ) → slot_in t n ≡ Some s → slot_in t m ≡ Some u → IsAlive records s → IsAlive records u
      → (record_at records s).piece ≡ (record_at records u).piece → s ≡ u
  -- each piece that is given out is that of an object that isn't dead
  pub owned : (p : ℕ) → is_some (piece_in pieces p) ≡ true → HasOwner t records p
  -- each slot is an object's, or idle
  pub count : count_by is_some t.places + idle_count sides ≡ length sides
