-- A full place stays full where cells are put that it has none of; and a place with no storage in it has no cell of weak or unowned storage.
use Rattle.std.proofs.Common.{◌≡◌, ◌⊎◌, ⊎_elim, inl, inr, ℕ, zero, suc, ◌+◌, ◌<◌, ◌≤◌, List, [], ◌∷◌, ◌++◌, length, Option, Some, None, true, false, refl, sym, ap, ◌∙◌, subst}
use Rattle.std.specs.Prelude.{is_some, slice_get}
use Rattle.std.specs.List.{flat_map}
use Rattle.std.proofs.lemmas.Bool.{false≢true}
use Rattle.std.proofs.lemmas.Option.{none-some, same_Some}
use Rattle.holder_model_values.specs.RunValues.Cells.{Cell, cell_count}
use Rattle.holder_model_values.specs.RunValues.Memory.{Memory, put_cells}
use Rattle.holder_model_values.specs.RunValues.Places.{Home, Inside, OnStack, Place, home_cells, value_at, with_cells, with_home_cells}
use Rattle.holder_model_values.specs.RunValues.Shapes.{Shape, Stored, storage_in}
use Rattle.holder_model_values.specs.RunValues.Values.{Value}
use Rattle.sil_ast.specs.declared.decl.Storage.{Storage}
use Rattle.sil_ast.specs.declared.module.Module.{Module}
use Rattle.sil_ast.specs.declared.place.ObjectId.{ObjectId}
use Rattle.sil_verifier_runs.specs.holder_model_laws.HolderLaws.inner.Cells.Cells.{AreApart, IsFullCell, IsPlace, behind, cell_at, has_cell}
use Rattle.sil_verifier_runs.proofs.holder_model_laws.HolderLaws.Cells.Lists.{element, get_left, get_right, put_out}
use Rattle.sil_verifier_runs.proofs.holder_model_laws.HolderLaws.Cells.PlaceCells.{cell_outside, full_cells, full_value, not_cell, offset_of}
use Rattle.sil_verifier_runs.specs.holder_model.RunTyping.Forms.{has_no_storage}
use Rattle.ownership_lowering_laws.specs.holder_model_typing.TypedMemory.inner.Worlds.{IsIn, PlaceIs, World, cell_shapes}
use Rattle.ownership_lowering_laws.proofs.holder_model_typing.RunTypingLaws.Rows.Finding.{each_at}
use Rattle.ownership_lowering_laws.proofs.holder_model_typing.TypedMemory.CellShapes.{place_within, shape_count}
use Rattle.ownership_lowering_laws.proofs.holder_model_typing.TypedMemory.Zips.{Within}
use Rattle.ownership_lowering_runs.proofs.StoredRuns.Typed.TypedCalls.{IsStrong}
use Rattle.ownership_lowering_runs.proofs.StoredRuns.Typed.TypedPlaces.{bare_cells}

-- ---- other cells

module _ (low : Memory) (y : Place) (new : List Cell) (size : length new ≡ cell_count y.shape) where
  other_cell : (n : ℕ) → (y.home ≡ OnStack → has_cell y n ≡ false) → cell_at (with_cells low y new) OnStack n ≡ cell_at low OnStack n
  other_cell n out = by y.home refl
    where
      outside : has_cell y n ≡ false → (n < y.first) ⊎ (y.first + length new ≤ n)
      outside e = ⊎_elim
          (λ (lt : n < y.first). inl lt)
          (λ (le : behind y ≤ n). inr (subst (λ k. y.first + k ≤ n) (sym size) le))
          (cell_outside y n e)

      by : (h : Home) → y.home ≡ h → slice_get (home_cells (with_home_cells low h (put_cells (home_cells low h) y.first new)) OnStack) n ≡ slice_get low.stack n
      by OnStack e = put_out low.stack y.first new n (outside (out e))
      by (Inside o) e = refl

  -- a place on the stack that is apart from it stays full
  pub still_full : (p : Place) → p.home ≡ OnStack → (y.home ≡ OnStack → AreApart p y) → is_some (value_at low p) ≡ true
      → is_some (value_at (with_cells low y new) p) ≡ true
  still_full p home apart full = by (value_at low p) refl full
    where
      same : (n : ℕ) → has_cell p n ≡ true → cell_at (with_cells low y new) p.home n ≡ cell_at low p.home n
      same n has = subst (λ h. cell_at (with_cells low y new) h n ≡ cell_at low h n) (sym home) (other_cell n (λ e. apart e n has))

      by : (o : Option Value) → value_at low p ≡ o → is_some o ≡ true → is_some (value_at (with_cells low y new) p) ≡ true
      by None e h = absurd (false≢true h)
      by (Some x) e h = ap is_some (full_value (with_cells low y new) p all).1
        where
          all : IsPlace true (with_cells low y new) p
          all n has = subst IsFullCell (sym (same n has)) (full_cells low p x e n has)

-- ---- cells of storage

within_get : {A : Type 0} (whole part : List A) (first : ℕ) → Within whole first part → (k : ℕ) → k < length part → slice_get whole (first + k) ≡ slice_get part k
within_get whole part first x k lt =
    ap (λ xs. slice_get xs (first + k)) x.splits
    ∙ ap (λ n. slice_get (x.before ++ (part ++ x.behind)) (n + k)) (sym x.count)
    ∙ get_right x.before (part ++ x.behind) k
    ∙ get_left part x.behind k lt

-- storage has one cell, and it is storage
stored_cell : (how : Storage) (inner : Shape) (k : ℕ) (u : Shape) → slice_get (Stored how inner ∷ []) k ≡ Some u → storage_in u ≡ None → ⊥
stored_cell how inner zero u e none = none-some how (sym none ∙ ap storage_in (sym (same_Some (Stored how inner) u e)))
stored_cell how inner (suc k) u e none = none-some u e

on_slots : (m : Module) (w : World) (p : Place) → PlaceIs m w p → p.home ≡ OnStack → IsIn w.slots p
on_slots m w p (PlaceIs.on_stack home at) e = at
on_slots m w p (PlaceIs.inside o class home there at) e = absurd (never o (sym home ∙ e))
  where
    never : (o : ObjectId) → Inside o ≡ OnStack → ⊥
    never o h = cc

module _ (m : Module) (w : World) (p y : Place) (p_is : IsIn w.slots p) (y_is : IsIn w.slots y) (bare : has_no_storage p.shape ≡ true)
    (how : Storage) (inner : Shape) (stored : y.shape ≡ Stored how inner) where
  -- the shape of a cell of each
  shape_at : (q : Place) → IsIn w.slots q → (k : ℕ) → k < cell_count q.shape
      → (u : Shape) × (slice_get (flat_map cell_shapes w.slots) (q.first + k) ≡ Some u) × (slice_get (cell_shapes q.shape) k ≡ Some u)
  shape_at q q_is k lt =
      let within : k < length (cell_shapes q.shape) = subst (λ n. k < n) (sym (shape_count q.shape)) lt in
      let u = element (cell_shapes q.shape) k within in
      (u.0, within_get (flat_map cell_shapes w.slots) (cell_shapes q.shape) q.first (place_within w.slots q q_is) k within ∙ u.1, u.1)

  never_both : (n : ℕ) → has_cell p n ≡ true → has_cell y n ≡ true → ⊥
  never_both n in_p in_y =
      let a = offset_of p n in_p in
      let b = offset_of y n in_y in
      let u = shape_at p p_is a.offset a.within in
      let v = shape_at y y_is b.offset b.within in
      let same : u.0 ≡ v.0 = same_Some u.0 v.0 (sym u.1 ∙ ap (slice_get (flat_map cell_shapes w.slots)) (a.is ∙ sym b.is) ∙ v.1) in
      let strong : IsStrong u.0 = each_at IsStrong (cell_shapes p.shape) a.offset u.0 (bare_cells p.shape bare) u.2 in
      stored_cell how inner b.offset v.0 (ap (λ s. slice_get (cell_shapes s) b.offset) (sym stored) ∙ v.2) (subst IsStrong same strong)

  apart : AreApart p y
  apart n in_p = not_cell y n (λ in_y. never_both n in_p in_y)

pub apart_by_types : (m : Module) (w : World) (p y : Place) → PlaceIs m w p → PlaceIs m w y → p.home ≡ OnStack → y.home ≡ OnStack → has_no_storage p.shape ≡ true
    → (how : Storage) (inner : Shape) → y.shape ≡ Stored how inner → AreApart p y
apart_by_types m w p y p_is y_is p_home y_home bare how inner stored =
    apart m w p y (on_slots m w p p_is p_home) (on_slots m w y y_is y_home) bare how inner stored
