-- The memory of a lowered run beside that of the run by holders.
use Rattle.std.specs.Prelude.{◌≡◌, List}
use Rattle.std.specs.List.{AllZip}
use Rattle.sil_ast.specs.declared.decl.Storage.TheVariants as storage
use Rattle.holder_model_values.specs.RunValues.Cells.{Cell, Empty, Keeps}
use Rattle.holder_model_values.specs.RunValues.Memory.{Memory, Object}
use Rattle.holder_model_values.specs.RunValues.Values.{Value}

-- the lowered run has the same in a cell, but that a value stays where it was taken
pub data IsCellFor : Cell → Cell → Type 0 where
  same : (c : Cell) → IsCellFor c c
  taken : (x : Value) → IsCellFor Empty (Keeps storage.Strong x)

-- a cell whose value, if it has one, may stay where it is taken: it isn't gone, and no weak or unowned storage
pub data MayBeTaken : Cell → Type 0 where
  empty : MayBeTaken Empty
  keeps : (x : Value) → MayBeTaken (Keeps storage.Strong x)

abbrev pub AreCellsFor : List Cell → List Cell → Type 0
AreCellsFor cells low = AllZip IsCellFor cells low

-- a field is taken while it is lent to a callee, which fills it before it returns
pub record IsObjectFor (x low : Object) : Type 0 where
  pub class : low.class ≡ x.class
  pub phase : low.phase ≡ x.phase
  pub cells : AreCellsFor x.cells low.cells

pub record IsMemoryFor (m low : Memory) : Type 0 where
  pub stack : AreCellsFor m.stack low.stack
  pub objects : AllZip IsObjectFor m.objects low.objects
