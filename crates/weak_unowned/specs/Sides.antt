-- Side counts: how many unowned and how many weak places name the object of each slot, and whether that object is dead.
use Rattle.std.specs.Prelude.{ℕ, ◌+◌, ◌-◌, ◌==◌, List, Bool, false, true, ◌&&◌, count_by, set, slice_index_or}
use Rattle.weak_unowned.specs.declared.side.Side.{Side}
use Rattle.weak_unowned.specs.declared.side.SlotSides.{SlotSides}

-- of a new slot
abbrev pub no_sides : SlotSides
no_sides = record { unowned = 0; weak = 0; marked = false }

-- no place names the object
abbrev pub is_unnamed : SlotSides → Bool
is_unnamed s = s.unowned == 0 && s.weak == 0

-- the object is dead and no place names it: a new object may take the slot
abbrev pub is_idle : SlotSides → Bool
is_idle s = s.marked && is_unnamed s

abbrev pub idle_count : List SlotSides → ℕ
idle_count slots = count_by is_idle slots

-- what stands at a slot
abbrev pub sides_at : List SlotSides → ℕ → SlotSides
sides_at slots o = slice_index_or slots o no_sides

abbrev pub is_idle_at : List SlotSides → ℕ → Bool
is_idle_at slots o = is_idle (sides_at slots o)

abbrev pub counts_of : SlotSides → Side
counts_of s = record { unowned = s.unowned; weak = s.weak }

-- the slots after a change of one
abbrev pub changed : (SlotSides → SlotSides) → List SlotSides → ℕ → List SlotSides
changed f slots o = set slots o (f (sides_at slots o))

abbrev pub more_weak : SlotSides → SlotSides
more_weak s = record s { weak = s.weak + 1 }

abbrev pub less_weak : SlotSides → SlotSides
less_weak s = record s { weak = s.weak - 1 }

abbrev pub more_unowned : SlotSides → SlotSides
more_unowned s = record s { unowned = s.unowned + 1 }

abbrev pub less_unowned : SlotSides → SlotSides
less_unowned s = record s { unowned = s.unowned - 1 }

abbrev pub marked : SlotSides → SlotSides
marked s = record s { marked = true }

abbrev pub unmarked : SlotSides → SlotSides
unmarked s = record s { marked = false }
