-- What memory holds where cells are put at a place, and where objects and slots are made or change.
use Rattle.std.proofs.Common.{◌≡◌, ℕ, ◌+◌, ◌<◌, ◌≤◌, List, [], ◌∷◌, ◌++◌, map, sum, length, get_or, take, drop, replicate, refl, ap, ◌∙◌, Bool, true, false, cond}
use Rattle.std.proofs.Common.{Option, Some, None, arith}
use Rattle.std.specs.Prelude.{slice_get, unwrap_or}
use Rattle.std.proofs.lemmas.Bool.{false≢true, true≢false}
use Rattle.std.proofs.lemmas.List.{length-replicate}
use Rattle.std.proofs.lemmas.Option.{slice_get_within, unwrap_or-slice_get}
use Rattle.sil_ast.specs.declared.decl.Storage.{Storage}
use Rattle.sil_ast.specs.declared.decl.Storage.TheVariants as storage
use Rattle.sil_ast.specs.declared.place.ObjectId.{ObjectId}
use Rattle.holder_model.specs.holder_model_values.RunValues.Cells.{Cell, Gone, Empty, cell_count}
use Rattle.holder_model.specs.holder_model_values.declared.run_values.phase.Phase.{Phase}
use Rattle.holder_model.specs.holder_model_values.declared.run_values.phase.Phase.TheVariants.{Dead, Deiniting, Live}
use Rattle.holder_model.specs.holder_model_values.RunValues.Memory.{Memory, Object, is_dead, is_dead_phase, is_live, is_live_phase, no_object, object_at, put_cells, with_object}
use Rattle.holder_model.specs.holder_model_values.RunValues.Places.{Home, Inside, OnStack, cells_at, empty_fields, home_cells, with_home_cells}
use Rattle.holder_model.specs.Dropping.{ended}
use Rattle.holder_model.specs.Holders.{in_cell, in_cells, in_memory, in_object, kept_references}
use Rattle.holder_model_laws.specs.HolderLaws.inner.Counts.Keeping.{AreDeathsCounted, AreEmptiedCounted, AreNewCounted, ArePhasesCounted, ArePlacesCounted, AreReferencesCounted, IsAliveAt}
use Rattle.holder_model_laws.proofs.HolderLaws.Counts.Sums.{total, total_append, total_cons, total_flat, total_none, total_put, total_set}

-- an object that isn't dead was made
pub made_object : (m : Memory) (o : ObjectId) → is_dead m o ≡ false → o.0 < length m.objects
made_object m o alive = at (slice_get m.objects o.0) refl alive
  where
    at : (x : Option Object) → slice_get m.objects o.0 ≡ x → is_dead_phase (unwrap_or x no_object).phase ≡ false → o.0 < length m.objects
    at None e h = absurd (true≢false h)
    at (Some x) e h = slice_get_within m.objects o.0 x e

pub live_not_dead : (m : Memory) (o : ObjectId) → is_live m o ≡ true → is_dead m o ≡ false
live_not_dead m o h = at (object_at m o).phase h
  where
    at : (p : Phase) → is_live_phase p ≡ true → is_dead_phase p ≡ false
    at Live h = refl
    at Deiniting h = absurd (false≢true h)
    at Dead h = absurd (false≢true h)

module _ (weight : ObjectId → ℕ) (how : Storage) where
  -- an object takes the place of another
  object_total : (m : Memory) (o : ObjectId) (x : Object) → o.0 < length m.objects
      → in_memory weight how (with_object m o x) + in_object weight how (object_at m o) ≡ in_memory weight how m + in_object weight how x
  object_total m o x lt =
      let changed = total_set (in_object weight how) m.objects o.0 x no_object lt in
      let same : in_object weight how (object_at m o) ≡ in_object weight how (get_or m.objects o.0 no_object) =
      ap (in_object weight how) (unwrap_or-slice_get m.objects o.0 no_object) in
      omega (arith, changed, same)

  alive_total : (x : Object) → is_dead_phase x.phase ≡ false → in_object weight how x ≡ in_cells weight how x.cells
  alive_total x alive = ap (λ b. cond b 0 (in_cells weight how x.cells)) alive

  home_total : (m : Memory) (home : Home) (first n : ℕ) (new : List Cell) → IsAliveAt m home → first + n ≤ length (home_cells m home) → length new ≡ n
      → in_memory weight how (with_home_cells m home (put_cells (home_cells m home) first new)) + in_cells weight how (take n (drop first (home_cells m home)))
      ≡ in_memory weight how m + in_cells weight how new
  home_total m OnStack first n new alive le count =
      let put : in_cells weight how (put_cells m.stack first new) + in_cells weight how (take (length new) (drop first m.stack)) ≡ in_cells weight how m.stack + in_cells weight how new =
      total_put (in_cell weight how) m.stack first new (omega (arith, le, count)) in
      let same : in_cells weight how (take (length new) (drop first m.stack)) ≡ in_cells weight how (take n (drop first m.stack)) =
      ap (λ k. in_cells weight how (take k (drop first m.stack))) count in
      omega (arith, put, same)
  home_total m (Inside o) first n new alive le count =
      let old = object_at m o in
      let changed : Object = record old { cells = put_cells old.cells first new } in
      let put : in_cells weight how (put_cells old.cells first new) + in_cells weight how (take (length new) (drop first old.cells)) ≡ in_cells weight how old.cells + in_cells weight how new =
      total_put (in_cell weight how) old.cells first new (omega (arith, le, count)) in
      let same : in_cells weight how (take (length new) (drop first old.cells)) ≡ in_cells weight how (take n (drop first old.cells)) =
      ap (λ k. in_cells weight how (take k (drop first old.cells))) count in
      let objects : in_memory weight how (with_object m o changed) + in_object weight how old ≡ in_memory weight how m + in_object weight how changed =
      object_total m o changed (made_object m o alive) in
      let before : in_object weight how old ≡ in_cells weight how old.cells = alive_total old alive in
      let after : in_object weight how changed ≡ in_cells weight how (put_cells old.cells first new) = alive_total changed alive in
      omega (arith, put, same, objects, before, after)

pub places_counted : ArePlacesCounted
places_counted weight how m p new within count = home_total weight how m p.home p.first (cell_count p.shape) new within.alive within.inside count

pub emptied_counted : AreEmptiedCounted
emptied_counted weight how m p within =
    let n = cell_count p.shape in
    let empty = places_counted weight how m p (replicate n Empty) within (length-replicate n Empty) in
    let none : in_cells weight how (replicate n Empty) ≡ 0 = total_none (in_cell weight how) n Empty refl in
    let gone = places_counted weight how m p (replicate n Gone) within (length-replicate n Gone) in
    let nothing : in_cells weight how (replicate n Gone) ≡ 0 = total_none (in_cell weight how) n Gone refl in
    (omega (arith, empty, none), omega (arith, gone, nothing))

pub references_counted : AreReferencesCounted
references_counted weight = (
  λ m p. total_flat weight (kept_references storage.Strong) (cells_at m p),
  λ x. total_flat weight (kept_references storage.Strong) x.cells,
)

pub phases_counted : ArePhasesCounted
phases_counted weight how m o phase alive still =
    let old = object_at m o in
    let changed : Object = record old { phase = phase } in
    let objects : in_memory weight how (with_object m o changed) + in_object weight how old ≡ in_memory weight how m + in_object weight how changed =
    object_total weight how m o changed (made_object m o alive) in
    let before : in_object weight how old ≡ in_cells weight how old.cells = alive_total weight how old alive in
    let after : in_object weight how changed ≡ in_cells weight how old.cells = alive_total weight how changed still in
    omega (arith, objects, before, after)

pub deaths_counted : AreDeathsCounted
deaths_counted weight how m o alive =
    let old = object_at m o in
    let objects : in_memory weight how (with_object m o (ended old)) + in_object weight how old ≡ in_memory weight how m + 0 =
    object_total weight how m o (ended old) (made_object m o alive) in
    let before : in_object weight how old ≡ in_cells weight how old.cells = alive_total weight how old alive in
    omega (arith, objects, before)

pub new_counted : AreNewCounted
new_counted weight how m = (
  λ class fields.
      let x : Object = record { class = class; phase = Live; cells = empty_fields fields } in
      let more : total (in_object weight how) (m.objects ++ x ∷ []) ≡ total (in_object weight how) m.objects + total (in_object weight how) (x ∷ []) =
      total_append (in_object weight how) m.objects (x ∷ []) in
      let one : total (in_object weight how) (x ∷ []) ≡ in_cells weight how (empty_fields fields) + 0 = total_cons (in_object weight how) x [] in
      let none : in_cells weight how (empty_fields fields) ≡ 0 = total_none (in_cell weight how) (sum (map cell_count fields)) Empty refl in
      omega (arith, more, one, none),
  λ s.
      let more : in_cells weight how (m.stack ++ replicate (cell_count s) Empty) ≡ in_cells weight how m.stack + in_cells weight how (replicate (cell_count s) Empty) =
      total_append (in_cell weight how) m.stack (replicate (cell_count s) Empty) in
      let none : in_cells weight how (replicate (cell_count s) Empty) ≡ 0 = total_none (in_cell weight how) (cell_count s) Empty refl in
      omega (arith, more, none),
)
