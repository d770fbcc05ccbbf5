-- What memory holds, by any weight: what a place brings and takes away, and objects and slots that are made or change their phase.
use Rattle.std.specs.Prelude.{◌≡◌, ◌≤◌, ◌+◌, ℕ, List, [], ◌∷◌, ◌++◌, false, length, Some}
use Rattle.numbered_form.specs.Lists.{Each}
use Rattle.numbered_form.specs.Names.{Name}
use Rattle.sil_ast.specs.declared.decl.Storage.{Storage}
use Rattle.sil_ast.specs.declared.decl.Storage.TheVariants as storage
use Rattle.sil_ast.specs.declared.place.ObjectId.{ObjectId}
use Rattle.holder_model.specs.holder_model_values.RunValues.Cells.{Cell, Gone, Empty, Keeps, cell_count}
use Rattle.holder_model.specs.holder_model_values.RunValues.Cells as cells
use Rattle.holder_model.specs.holder_model_values.declared.run_values.phase.Phase.{Phase}
use Rattle.holder_model.specs.holder_model_values.declared.run_values.phase.Phase.TheVariants.{Live}
use Rattle.holder_model.specs.holder_model_values.RunValues.Memory.{Memory, Object, is_dead, is_dead_phase, object_at, with_object}
use Rattle.holder_model.specs.holder_model_values.RunValues.Places.{Home, Inside, OnStack, Place, cells_at, empty_fields, empty_slot, emptied, home_cells}
use Rattle.holder_model.specs.holder_model_values.RunValues.Places.{removed, with_cells}
use Rattle.holder_model.specs.holder_model_values.RunValues.Shapes.{Shape}
use Rattle.holder_model.specs.holder_model_values.RunValues.Values.{Value, references_of}
use Rattle.holder_model.specs.Dropping.{ended, field_references, in_phase}
use Rattle.holder_model.specs.Holders.{in_cells, in_memory, of_references}
use Rattle.holder_model.specs.MemoryEffects.{references_at}

-- ---- values as cells

abbrev pub KeepsStrongly : Cell → Type 0
KeepsStrongly Gone = Unit {0}
KeepsStrongly Empty = Unit {0}
KeepsStrongly (Keeps how x) = how ≡ storage.Strong

-- the value that cells keep strongly holds what they hold
abbrev pub AreReadCounted : Type 0
AreReadCounted = (weight : ObjectId → ℕ) (s : Shape) (kept : List Cell) (x : Value) → Each KeepsStrongly kept → length kept ≡ cell_count s
    → (cells.in_cells s).value kept ≡ Some x → of_references weight (references_of x) ≡ in_cells weight storage.Strong kept

-- the cells of a value hold no more than it
abbrev pub AreWrittenCounted : Type 0
AreWrittenCounted = (weight : ObjectId → ℕ) (s : Shape) (x : Value)
    → in_cells weight storage.Strong ((cells.in_cells s).cells x) ≤ of_references weight (references_of x)

-- ---- places

abbrev pub IsAliveAt : Memory → Home → Type 0
IsAliveAt m OnStack = Unit {0}
IsAliveAt m (Inside o) = is_dead m o ≡ false

-- the place is of cells that are there, and in no dead object
pub record IsWithin (m : Memory) (p : Place) : Type 0 where
  pub alive : IsAliveAt m p.home
  pub inside : p.first + cell_count p.shape ≤ length (home_cells m p.home)

-- other cells at a place bring what they hold, and take away what the place held
abbrev pub ArePlacesCounted : Type 0
ArePlacesCounted = (weight : ObjectId → ℕ) (how : Storage) (m : Memory) (p : Place) (new : List Cell) → IsWithin m p → length new ≡ cell_count p.shape
    → in_memory weight how (with_cells m p new) + in_cells weight how (cells_at m p) ≡ in_memory weight how m + in_cells weight how new

-- an empty place holds nothing, nor does one that is gone
abbrev pub AreEmptiedCounted : Type 0
AreEmptiedCounted = (weight : ObjectId → ℕ) (how : Storage) (m : Memory) (p : Place) → IsWithin m p
    → (in_memory weight how (emptied m p) + in_cells weight how (cells_at m p) ≡ in_memory weight how m)
    × (in_memory weight how (removed m p) + in_cells weight how (cells_at m p) ≡ in_memory weight how m)

-- the references at a place are what it holds
abbrev pub AreReferencesCounted : Type 0
AreReferencesCounted = (weight : ObjectId → ℕ)
    → ((m : Memory) (p : Place) → of_references weight (references_at m p) ≡ in_cells weight storage.Strong (cells_at m p))
    × ((x : Object) → of_references weight (field_references x) ≡ in_cells weight storage.Strong x.cells)

-- ---- objects and slots

-- an object that isn't dead holds as much in another phase
abbrev pub ArePhasesCounted : Type 0
ArePhasesCounted = (weight : ObjectId → ℕ) (how : Storage) (m : Memory) (o : ObjectId) (phase : Phase) → is_dead m o ≡ false → is_dead_phase phase ≡ false
    → in_memory weight how (in_phase phase m o) ≡ in_memory weight how m

-- an object that dies leaves what its cells held
abbrev pub AreDeathsCounted : Type 0
AreDeathsCounted = (weight : ObjectId → ℕ) (how : Storage) (m : Memory) (o : ObjectId) → is_dead m o ≡ false
    → in_memory weight how (with_object m o (ended (object_at m o))) + in_cells weight how (object_at m o).cells ≡ in_memory weight how m

abbrev pub with_new_object : Memory → Name → List Shape → Memory
with_new_object m class fields = record m { objects = m.objects ++ record { class = class; phase = Live; cells = empty_fields fields } ∷ [] }

abbrev pub with_new_slot : Memory → Shape → Memory
with_new_slot m s = record m { stack = m.stack ++ empty_slot s }

-- new objects and slots hold nothing
abbrev pub AreNewCounted : Type 0
AreNewCounted = (weight : ObjectId → ℕ) (how : Storage) (m : Memory)
    → ((class : Name) (fields : List Shape) → in_memory weight how (with_new_object m class fields) ≡ in_memory weight how m)
    × ((s : Shape) → in_memory weight how (with_new_slot m s) ≡ in_memory weight how m)
