-- Objects of which every field is written, and memory that names no other.
use Rattle.std.specs.Prelude.{ℕ, ◌<◌, List, [], length}
use Rattle.numbered_form.specs.Lists.{Each}
use Rattle.holder_model_laws.specs.HolderLaws.inner.Cells.Cells.{IsEmptyCell, IsGoneCell, cell_at}
use Rattle.holder_model.specs.holder_model_values.RunValues.Cells.{Cell, Empty, Gone, Keeps}
use Rattle.holder_model.specs.holder_model_values.RunValues.Memory.{Memory}
use Rattle.holder_model.specs.holder_model_values.RunValues.Places.{Home, Inside, home_cells}
use Rattle.holder_model.specs.holder_model_values.RunValues.Values.{references_of}
use Rattle.sil_ast.specs.declared.place.ObjectId.{ObjectId}

-- the object was made, and none of its cells is empty. A dead object has no cell
pub record IsWhole (m : Memory) (o : ObjectId) : Type 0 where
  pub made : o.0 < length m.objects
  pub written : (n : ℕ) → IsEmptyCell (cell_at m (Inside o) n) → ⊥

abbrev pub NameWhole : Memory → List ObjectId → Type 0
NameWhole m os = Each (IsWhole m) os

-- what the cell keeps, in whichever storage
abbrev pub cell_references : Cell → List ObjectId
cell_references Gone = []
cell_references Empty = []
cell_references (Keeps how x) = references_of x

-- no cell of an object is gone, and what cells keep names whole objects alone
pub record IsWholeMemory (m : Memory) : Type 0 where
  pub there : (o : ObjectId) (n : ℕ) → IsGoneCell (cell_at m (Inside o) n) → ⊥
  pub kept : (h : Home) → Each (λ c. NameWhole m (cell_references c)) (home_cells m h)

-- what was whole is whole in the later memory
abbrev pub StayWhole : Memory → Memory → Type 0
StayWhole m later = (o : ObjectId) → IsWhole m o → IsWhole later o
