-- Places: what addresses name.
use Rattle.std.specs.Prelude.{ℕ, ◌+◌, List, Bool, true, false, Option, map, option_map, slice_get}
use Rattle.std.specs.Prelude.{take, drop, sum, replicate}
use Rattle.std.specs.List.{list_all}
use Rattle.sil_ast.specs.declared.place.ObjectId.{ObjectId}
use Rattle.holder_model_values.specs.RunValues.Cells.{Cell, Empty, Gone, Keeps, cell_count, in_cells}
use Rattle.holder_model_values.specs.RunValues.Shapes.{Shape, member_shapes}
use Rattle.holder_model_values.specs.RunValues.Values.{Value}
use Rattle.holder_model_values.specs.RunValues.Memory.{Memory, object_at, put_cells, with_object}

-- where cells are: among those of all slots, or in an object
pub data Home : Type 0 where
  OnStack : Home
  Inside : (o : ObjectId) → Home

-- a place: its first cell, its shape, and whether it is a part of a slot, of an argument or of a field
pub record Place : Type 0 where
  pub home : Home
  pub first : ℕ
  pub shape : Shape
  pub is_part : Bool

abbrev pub home_cells : Memory → Home → List Cell
home_cells m OnStack = m.stack
home_cells m (Inside o) = (object_at m o).cells

abbrev pub with_home_cells : Memory → Home → List Cell → Memory
with_home_cells m OnStack cells = record m { stack = cells }
with_home_cells m (Inside o) cells = with_object m o (record (object_at m o) { cells = cells })

-- the cells of a place
abbrev pub cells_at : Memory → Place → List Cell
cells_at m p = take (cell_count p.shape) (drop p.first (home_cells m p.home))

-- the value at a place, where it is full
abbrev pub value_at : Memory → Place → Option Value
value_at m p = (in_cells p.shape).value (cells_at m p)

abbrev pub is_empty_cell : Cell → Bool
is_empty_cell Gone = false
is_empty_cell Empty = true
is_empty_cell (Keeps storage x) = false

abbrev pub is_there : Cell → Bool
is_there Gone = false
is_there Empty = true
is_there (Keeps storage x) = true

-- all cells of the place are empty
abbrev pub is_empty_at : Memory → Place → Bool
is_empty_at m p = list_all is_empty_cell (cells_at m p)

-- the place's slot isn't gone
abbrev pub is_there_at : Memory → Place → Bool
is_there_at m p = list_all is_there (cells_at m p)

abbrev pub with_cells : Memory → Place → List Cell → Memory
with_cells m p cells = with_home_cells m p.home (put_cells (home_cells m p.home) p.first cells)

-- the memory with a value at a place
abbrev pub filled : Memory → Place → Value → Memory
filled m p v = with_cells m p ((in_cells p.shape).cells v)

-- the memory with the place empty
abbrev pub emptied : Memory → Place → Memory
emptied m p = with_cells m p (replicate (cell_count p.shape) Empty)

-- the memory with the place's cells gone
abbrev pub removed : Memory → Place → Memory
removed m p = with_cells m p (replicate (cell_count p.shape) Gone)

-- parts

-- where the one with this number begins, among shapes whose cells lie side by side
abbrev pub offset : List Shape → ℕ → ℕ
offset shapes k = sum (map cell_count (take k shapes))

abbrev pub part_of : Place → List Shape → ℕ → Shape → Place
part_of p shapes k s = record p { first = p.first + offset shapes k; shape = s; is_part = true }

-- the member of the place with this number
abbrev pub member_place : Place → ℕ → Option Place
member_place p k = option_map (part_of p (member_shapes p.shape) k) (slice_get (member_shapes p.shape) k)

abbrev pub field_in : ObjectId → List Shape → ℕ → Shape → Place
field_in o shapes k s = record { home = Inside o; first = offset shapes k; shape = s; is_part = false }

-- the field with this number of an object, among fields of these shapes: those of its class, or of an ancestor
abbrev pub field_place : List Shape → ObjectId → ℕ → Option Place
field_place shapes o k = option_map (field_in o shapes k) (slice_get shapes k)

-- the cells of a new object, of a new slot
abbrev pub empty_fields : List Shape → List Cell
empty_fields shapes = replicate (sum (map cell_count shapes)) Empty

abbrev pub empty_slot : Shape → List Cell
empty_slot s = replicate (cell_count s) Empty
