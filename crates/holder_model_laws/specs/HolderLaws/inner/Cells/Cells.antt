-- Cells of memory one by one: which of them a place has, and what they hold.
use Rattle.std.specs.Prelude.{◌≡◌, ℕ, ◌+◌, ◌≤◌, ◌&&◌, Bool, true, false, length, nat_le, nat_lt, Option, Some, slice_get}
use Rattle.sil_ast.specs.declared.decl.Storage.{Storage}
use Rattle.sil_ast.specs.declared.place.ObjectId.{ObjectId}
use Rattle.holder_model.specs.holder_model_values.RunValues.Cells.{Cell, Empty, Gone, Keeps, cell_count}
use Rattle.holder_model.specs.holder_model_values.RunValues.Memory.{Memory, object_at, phase_of}
use Rattle.holder_model.specs.holder_model_values.RunValues.Places.{Home, Place, home_cells}
use Rattle.holder_model.specs.holder_model_values.RunValues.Values.{Value}

-- the cell with this number, among those of all slots or of an object
abbrev pub cell_at : Memory → Home → ℕ → Option Cell
cell_at m h n = slice_get (home_cells m h) n

-- it keeps a value
abbrev pub IsFullCell : Option Cell → Type 0
IsFullCell c = (how : Storage) × (x : Value) × (c ≡ Some (Keeps how x))

-- it is there and keeps none
abbrev pub IsEmptyCell : Option Cell → Type 0
IsEmptyCell c = c ≡ Some Empty

-- its slot was deallocated
abbrev pub IsGoneCell : Option Cell → Type 0
IsGoneCell c = c ≡ Some Gone

-- it is full, or it is empty
abbrev pub IsCell : Bool → Option Cell → Type 0
IsCell true c = IsFullCell c
IsCell false c = IsEmptyCell c

-- the number behind the last cell of a place
abbrev pub behind : Place → ℕ
behind p = p.first + cell_count p.shape

-- the place has the cell with this number
abbrev pub has_cell : Place → ℕ → Bool
has_cell p n = nat_le p.first n && nat_lt n (behind p)

-- its cells are there
abbrev pub IsInside : Memory → Place → Type 0
IsInside m p = behind p ≤ length (home_cells m p.home)

-- each of its cells is so
abbrev pub AreCells : (Option Cell → Type 0) → Memory → Place → Type 0
AreCells Is m p = (n : ℕ) → has_cell p n ≡ true → Is (cell_at m p.home n)

-- all are full, or all are empty
abbrev pub IsPlace : Bool → Memory → Place → Type 0
IsPlace on m p = AreCells (IsCell on) m p

-- two places on the stack, or in one object, have no cell in common
abbrev pub AreApart : Place → Place → Type 0
AreApart p q = (n : ℕ) → has_cell p n ≡ true → has_cell q n ≡ false

-- the memory has changed in cells of the place alone
pub record ChangesAt (p : Place) (before after : Memory) : Type 0 where
  pub others : (h : Home) (n : ℕ) → (h ≡ p.home → has_cell p n ≡ false) → cell_at after h n ≡ cell_at before h n
  pub sizes : (h : Home) → length (home_cells after h) ≡ length (home_cells before h)
  pub objects : length after.objects ≡ length before.objects
  pub phases : (o : ObjectId) → phase_of after o ≡ phase_of before o
  pub classes : (o : ObjectId) → (object_at after o).class ≡ (object_at before o).class
