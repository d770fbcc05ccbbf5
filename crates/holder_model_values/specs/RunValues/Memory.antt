-- The memory of a run: the cells of all slots, and the objects.
use Rattle.std.specs.Prelude.{ℕ, zero, suc, List, [], ◌∷◌, Bool, true, false, unwrap_or, slice_get, set, length}
use Rattle.sil_ast.specs.declared.place.ObjectId.{ObjectId}
use Rattle.sil_types_declarations.specs.numbered_form.Names.{Name}
use Rattle.holder_model_values.specs.declared.run_values.phase.Phase.{Phase}
use Rattle.holder_model_values.specs.declared.run_values.phase.Phase.TheVariants.{Live, Deiniting, Dead}
use Rattle.holder_model_values.specs.RunValues.Cells.{Cell}

-- an object: the class that was allocated, its phase, and the cells of its fields
pub record Object : Type 0 where
  pub class : Name
  pub phase : Phase
  pub cells : List Cell

-- slots are never given out a second time: a cell's number is its place. So are objects
pub record Memory : Type 0 where
  pub stack : List Cell
  pub objects : List Object

abbrev pub no_object : Object
no_object = record { class = []; phase = Dead; cells = [] }

abbrev pub object_at : Memory → ObjectId → Object
object_at m o = unwrap_or (slice_get m.objects o.0) no_object

abbrev pub with_object : Memory → ObjectId → Object → Memory
with_object m o x = record m { objects = set m.objects o.0 x }

abbrev pub phase_of : Memory → ObjectId → Phase
phase_of m o = (object_at m o).phase

abbrev pub is_live_phase : Phase → Bool
is_live_phase Live = true
is_live_phase Deiniting = false
is_live_phase Dead = false

abbrev pub is_dead_phase : Phase → Bool
is_dead_phase Live = false
is_dead_phase Deiniting = false
is_dead_phase Dead = true

abbrev pub is_live : Memory → ObjectId → Bool
is_live m o = is_live_phase (phase_of m o)

abbrev pub is_dead : Memory → ObjectId → Bool
is_dead m o = is_dead_phase (phase_of m o)

-- the cells with these in place of those from a place on
abbrev pub put_cells : List Cell → ℕ → List Cell → List Cell
put_cells cells zero [] = cells
put_cells cells (suc i) [] = cells
put_cells [] zero (c ∷ cs) = []
put_cells [] (suc i) (c ∷ cs) = []
put_cells (old ∷ cells) zero (c ∷ cs) = c ∷ put_cells cells zero cs
put_cells (old ∷ cells) (suc i) (c ∷ cs) = old ∷ put_cells cells i (c ∷ cs)

abbrev pub new_object : Memory → ObjectId
new_object m = record { 0 = length m.objects }
