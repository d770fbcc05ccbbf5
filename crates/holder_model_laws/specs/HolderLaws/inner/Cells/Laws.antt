-- Laws of the cells of places.
use Rattle.std.specs.Prelude.{◌≡◌, ◌+◌, ℕ, ◌<◌, ◌++◌, length, Some}
use Rattle.holder_model.specs.holder_model_values.RunValues.Cells.{Empty, cell_count}
use Rattle.holder_model.specs.holder_model_values.RunValues.Memory.{Memory}
use Rattle.holder_model.specs.holder_model_values.RunValues.Places.{OnStack, empty_slot}
use Rattle.holder_model.specs.holder_model_values.RunValues.Shapes.{Shape}
use Rattle.holder_model_laws.specs.HolderLaws.inner.Cells.Cells.{cell_at}

-- a new slot is empty, and the cells before it stay
abbrev pub AreSlotsNew : Type 0
AreSlotsNew = (m : Memory) (s : Shape) → let after : Memory = record m { stack = m.stack ++ empty_slot s } in
    ((n : ℕ) → n < length m.stack → cell_at after OnStack n ≡ cell_at m OnStack n)
    × ((k : ℕ) → k < cell_count s → cell_at after OnStack (length m.stack + k) ≡ Some Empty)
    × (length after.stack ≡ length m.stack + cell_count s)
