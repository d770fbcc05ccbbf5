-- The memory of the lowered run beside that of the run by holders: each change keeps it so, and what is full is read there.
use Rattle.std.proofs.Common.{◌≡◌, ℕ, zero, suc, List, [], ◌∷◌, ◌++◌, set, drop, replicate, refl, ap, subst, true, Some}
use Rattle.std.specs.Prelude.{slice_get, unwrap_or}
use Rattle.std.specs.List.{AllZip}
use Rattle.numbered_form.specs.Lists.{Each}
use Rattle.sil_ast.specs.declared.place.ObjectId.{ObjectId}
use Rattle.holder_model_values.specs.RunValues.Cells.{Cell, Empty, Gone, cell_count, in_cells}
use Rattle.holder_model_values.specs.RunValues.Memory.{Memory, Object, is_dead, is_dead_phase, is_live, is_live_phase, no_object, object_at, put_cells, with_object}
use Rattle.holder_model_values.specs.RunValues.Places.{Home, Inside, OnStack, Place, cells_at, emptied, filled, home_cells, is_there_at, removed, value_at, with_cells, with_home_cells}
use Rattle.holder_model_values.specs.RunValues.Values.{Value}
use Rattle.holder_model_values.specs.declared.run_values.phase.Phase.{Phase}
use Rattle.sil_verifier_runs.specs.holder_model.Dropping.{ended, in_phase}
use Rattle.ownership_lowering_runs.specs.StoredRuns.inner.Memories.{AreCellsFor, IsMemoryFor, IsObjectFor, MayBeTaken}
use Rattle.ownership_lowering_runs.proofs.StoredRuns.CellsFor.{dropped_front, emptied_for, joined_for, put_for, same_cells, taken_front, there_for, value_for}

-- ---- objects

same_object : (x : Object) → IsObjectFor x x
same_object x = record { class = refl; phase = refl; cells = same_cells x.cells }

get_for : (xs low : List Object) (k : ℕ) → AllZip IsObjectFor xs low → IsObjectFor (unwrap_or (slice_get xs k) no_object) (unwrap_or (slice_get low k) no_object)
get_for [] [] k h = same_object no_object
get_for [] (l ∷ low) k h = absurd h
get_for (x ∷ xs) [] k h = absurd h
get_for (x ∷ xs) (l ∷ low) zero h = h.0
get_for (x ∷ xs) (l ∷ low) (suc k) h = get_for xs low k h.1

set_for : (xs low : List Object) (k : ℕ) (x l : Object) → AllZip IsObjectFor xs low → IsObjectFor x l → AllZip IsObjectFor (set xs k x) (set low k l)
set_for [] [] k x l h is = tt
set_for [] (y ∷ low) k x l h is = absurd h
set_for (y ∷ xs) [] k x l h is = absurd h
set_for (y ∷ xs) (z ∷ low) zero x l h is = (is, h.1)
set_for (y ∷ xs) (z ∷ low) (suc k) x l h is = (h.0, set_for xs low k x l h.1 is)

-- an object of the run by holders has lost values that stay in the lowered run
set_alone : (xs low : List Object) (k : ℕ) (x : Object) → AllZip IsObjectFor xs low → ((y : Object) → slice_get low k ≡ Some y → IsObjectFor x y) → AllZip IsObjectFor (set xs k x) low
set_alone [] [] k x h is = tt
set_alone [] (y ∷ low) k x h is = absurd h
set_alone (y ∷ xs) [] k x h is = absurd h
set_alone (y ∷ xs) (z ∷ low) zero x h is = (is z refl, h.1)
set_alone (y ∷ xs) (z ∷ low) (suc k) x h is = (h.0, set_alone xs low k x h.1 is)

module _ (m low : Memory) (h : IsMemoryFor m low) where
  pub object_for : (o : ObjectId) → IsObjectFor (object_at m o) (object_at low o)
  object_for o = get_for m.objects low.objects o.0 h.objects

  pub object_put : (o : ObjectId) (x l : Object) → IsObjectFor x l → IsMemoryFor (with_object m o x) (with_object low o l)
  object_put o x l is = record { stack = h.stack; objects = set_for m.objects low.objects o.0 x l h.objects is }

  pub dead_for : (o : ObjectId) → is_dead low o ≡ is_dead m o
  dead_for o = ap is_dead_phase (object_for o).phase

  pub live_for : (o : ObjectId) → is_live low o ≡ is_live m o
  live_for o = ap is_live_phase (object_for o).phase

  pub phase_put : (phase : Phase) (o : ObjectId) → IsMemoryFor (in_phase phase m o) (in_phase phase low o)
  phase_put phase o =
      let at = object_for o in
      object_put o (record (object_at m o) { phase = phase }) (record (object_at low o) { phase = phase }) (record { class = at.class; phase = refl; cells = at.cells })

  pub object_ended : (o : ObjectId) → IsMemoryFor (with_object m o (ended (object_at m o))) (with_object low o (ended (object_at low o)))
  object_ended o = object_put o (ended (object_at m o)) (ended (object_at low o)) (record { class = (object_for o).class; phase = refl; cells = tt })

  -- a new object, and the cells of a new slot

  pub object_added : (x : Object) → IsMemoryFor (record m { objects = m.objects ++ x ∷ [] }) (record low { objects = low.objects ++ x ∷ [] })
  object_added x = record { stack = h.stack; objects = added m.objects low.objects h.objects }
    where
      added : (xs ls : List Object) → AllZip IsObjectFor xs ls → AllZip IsObjectFor (xs ++ x ∷ []) (ls ++ x ∷ [])
      added [] [] k = (same_object x, tt)
      added [] (l ∷ ls) k = absurd k
      added (y ∷ xs) [] k = absurd k
      added (y ∷ xs) (l ∷ ls) k = (k.0, added xs ls k.1)

  pub slot_added : (cells : List Cell) → IsMemoryFor (record m { stack = m.stack ++ cells }) (record low { stack = low.stack ++ cells })
  slot_added cells = record { stack = joined_for m.stack low.stack cells cells h.stack (same_cells cells); objects = h.objects }

  -- ---- places

  pub home_for : (home : Home) → AreCellsFor (home_cells m home) (home_cells low home)
  home_for OnStack = h.stack
  home_for (Inside o) = (object_for o).cells

  home_put : (home : Home) (cells ls : List Cell) → AreCellsFor cells ls → IsMemoryFor (with_home_cells m home cells) (with_home_cells low home ls)
  home_put OnStack cells ls k = record { stack = k; objects = h.objects }
  home_put (Inside o) cells ls k =
      let at = object_for o in
      object_put o (record (object_at m o) { cells = cells }) (record (object_at low o) { cells = ls }) (record { class = at.class; phase = at.phase; cells = k })

  home_lost : (home : Home) (cells : List Cell) → AreCellsFor cells (home_cells low home) → IsMemoryFor (with_home_cells m home cells) low
  home_lost OnStack cells k = record { stack = k; objects = h.objects }
  home_lost (Inside o) cells k =
      let at = object_for o in
      record {
        stack = h.stack;
        objects = set_alone m.objects low.objects o.0 (record (object_at m o) { cells = cells }) h.objects
            (λ y e. subst (IsObjectFor (record (object_at m o) { cells = cells })) (ap (λ x. unwrap_or x no_object) e) (record { class = at.class; phase = at.phase; cells = k }));
      }

  pub place_for : (p : Place) → AreCellsFor (cells_at m p) (cells_at low p)
  place_for p =
      taken_front (cell_count p.shape) (drop p.first (home_cells m p.home)) (drop p.first (home_cells low p.home))
      (dropped_front p.first (home_cells m p.home) (home_cells low p.home) (home_for p.home))

  pub place_there : (p : Place) → is_there_at m p ≡ true → is_there_at low p ≡ true
  place_there p = there_for (cells_at m p) (cells_at low p) (place_for p)

  pub place_read : (p : Place) (x : Value) → value_at m p ≡ Some x → value_at low p ≡ Some x
  place_read p x = value_for p.shape (cells_at m p) (cells_at low p) x (place_for p)

  pub place_put : (p : Place) (cells : List Cell) → IsMemoryFor (with_cells m p cells) (with_cells low p cells)
  place_put p cells =
      home_put p.home (put_cells (home_cells m p.home) p.first cells) (put_cells (home_cells low p.home) p.first cells)
      (put_for (home_cells m p.home) (home_cells low p.home) p.first cells cells (home_for p.home) (same_cells cells))

  pub place_filled : (p : Place) (x : Value) → IsMemoryFor (filled m p x) (filled low p x)
  place_filled p x = place_put p ((in_cells p.shape).cells x)

  pub place_removed : (p : Place) → IsMemoryFor (removed m p) (removed low p)
  place_removed p = place_put p (replicate (cell_count p.shape) Gone)

  -- a name is taken from weak or unowned storage in both
  pub place_emptied : (p : Place) → IsMemoryFor (emptied m p) (emptied low p)
  place_emptied p = place_put p (replicate (cell_count p.shape) Empty)

  -- any other value stays in the lowered run
  pub place_taken : (p : Place) → Each MayBeTaken (cells_at m p) → IsMemoryFor (emptied m p) low
  place_taken p k =
      home_lost p.home (put_cells (home_cells m p.home) p.first (replicate (cell_count p.shape) Empty))
      (emptied_for (home_cells m p.home) (home_cells low p.home) p.first (cell_count p.shape) (home_for p.home) k)
