-- What a write changes, cell by cell.
use Rattle.std.proofs.Common.{◌≡◌, ◌<◌, ◌≤◌, ◌+◌, ◌⊎◌, ⊎_elim, inl, inr, ℕ, List, length, replicate, slice_get, Some, true, false, refl, sym, ap, ◌∙◌, subst, arith}
use Rattle.std.specs.Prelude.{unwrap_or}
use Rattle.std.proofs.lemmas.Bool.{cases_eq, cases_lt}
use Rattle.std.proofs.lemmas.List.{length-append, length-replicate, length-set}
use Rattle.std.proofs.lemmas.Option.{slice_get_past}
use Rattle.sil_ast.specs.declared.place.ObjectId.{ObjectId}
use Rattle.holder_model.specs.holder_model_values.RunValues.Cells.{Cell, Gone, Empty, cell_count, in_cells}
use Rattle.holder_model.specs.holder_model_values.RunValues.inner.Fits.{fits}
use Rattle.holder_model.specs.holder_model_values.RunValues.Memory.{Memory, Object, no_object, object_at, put_cells, with_object}
use Rattle.holder_model.specs.holder_model_values.RunValues.Places.{Home, Inside, OnStack, Place, emptied, empty_slot, filled, home_cells, removed, with_cells, with_home_cells}
use Rattle.holder_model.specs.holder_model_values.RunValues.Values.{Value}
use Rattle.holder_model.proofs.holder_model_values.ValueParts.Cells.{cells_length}
use Rattle.holder_model.proofs.holder_model_values.ValueParts.Cells as shapes
use Rattle.holder_model.proofs.holder_model_values.ValueParts.Splices.{put_length}
use Rattle.holder_model_laws.specs.HolderLaws.inner.Cells.Cells.{AreCells, ChangesAt, IsFullCell, IsInside, IsPlace, behind, cell_at}
use Rattle.holder_model_laws.specs.HolderLaws.inner.Cells.Laws.{AreSlotsNew}
use Rattle.holder_model_laws.proofs.HolderLaws.Cells.Kept.{cells_full}
use Rattle.holder_model_laws.proofs.HolderLaws.Cells.Lists.{get_left, get_replicate, get_right, get_set_other, get_set_same, put_in, put_out}
use Rattle.holder_model_laws.proofs.HolderLaws.Cells.PlaceCells.{cell_outside, each_cell}

-- ---- objects

same_number : (o p : ObjectId) → o.0 ≡ p.0 → o ≡ p
same_number o p e = ap (λ (n : ℕ). record { 0 = n }) e

pub object_same : (m : Memory) (o : ObjectId) (x : Object) → o.0 < length m.objects → object_at (with_object m o x) o ≡ x
object_same m o x lt = ap (λ y. unwrap_or y no_object) (get_set_same m.objects o.0 x lt)

pub object_other : (m : Memory) (o p : ObjectId) (x : Object) → (p.0 ≡ o.0 → ⊥) → object_at (with_object m o x) p ≡ object_at m p
object_other m o p x other = ap (λ y. unwrap_or y no_object) (get_set_other m.objects o.0 x p.0 other)

-- an object that was never made has no cell
pub no_cells : (m : Memory) (o : ObjectId) → length m.objects ≤ o.0 → object_at m o ≡ no_object
no_cells m o le = ap (λ y. unwrap_or y no_object) (slice_get_past m.objects o.0 le)

-- ---- the cells of a home

-- the home of cells that are there
abbrev HasCells : Memory → Home → Type 0
HasCells m h = 0 < length (home_cells m h)

made : (m : Memory) (o : ObjectId) → HasCells m (Inside o) → o.0 < length m.objects
made m o some = ⊎_elim
    (λ (lt : o.0 < length m.objects). lt)
    (λ (le : length m.objects ≤ o.0). let none = ap (λ x. length x.cells) (no_cells m o le) in absurd (omega (arith, some, none)))
    (cases_lt o.0 (length m.objects))

home_same : (m : Memory) (h : Home) (cells : List Cell) → HasCells m h → home_cells (with_home_cells m h cells) h ≡ cells
home_same m OnStack cells some = refl
home_same m (Inside o) cells some = ap (λ x. x.cells) (object_same m o _ (made m o some))

home_other : (m : Memory) (h g : Home) (cells : List Cell) → (g ≡ h → ⊥) → home_cells (with_home_cells m h cells) g ≡ home_cells m g
home_other m OnStack OnStack cells other = absurd (other refl)
home_other m OnStack (Inside o) cells other = refl
home_other m (Inside o) OnStack cells other = refl
home_other m (Inside o) (Inside p) cells other = ap (λ x. x.cells) (object_other m o p _ (λ e. other (ap Inside (same_number p o e))))

same_home : (g h : Home) → (g ≡ h) ⊎ (g ≡ h → ⊥)
same_home OnStack OnStack = inl refl
same_home OnStack (Inside o) = inr (λ e. cc)
same_home (Inside o) OnStack = inr (λ e. cc)
same_home (Inside o) (Inside p) = ⊎_elim
    (λ (e : o.0 ≡ p.0). inl (ap Inside (same_number o p e)))
    (λ (not_so : o.0 ≡ p.0 → ⊥). inr (λ e. not_so (ap number e)))
    (cases_eq o.0 p.0)
  where
    number : Home → ℕ
    number OnStack = 0
    number (Inside o) = o.0

-- what stays of an object, but for its cells
kept_of : {A : Type 0} (tell : Object → A) → ((x : Object) (cells : List Cell) → tell (record x { cells = cells }) ≡ tell x)
    → (m : Memory) (h : Home) (cells : List Cell) (o : ObjectId) → tell (object_at (with_home_cells m h cells) o) ≡ tell (object_at m o)
kept_of tell same m OnStack cells o = refl
kept_of tell same m (Inside p) cells o = ⊎_elim
    (λ (e : o.0 ≡ p.0). subst (λ q. tell (object_at (with_home_cells m (Inside p) cells) q) ≡ tell (object_at m q)) (sym (same_number o p e))
    (⊎_elim
    (λ (lt : p.0 < length m.objects). ap tell (object_same m p _ lt) ∙ same (object_at m p) cells)
    (λ (le : length m.objects ≤ p.0).
    let long = length-set m.objects p.0 (record (object_at m p) { cells = cells }) in
    ap tell (no_cells (with_home_cells m (Inside p) cells) p (omega (arith, le, long)) ∙ sym (no_cells m p le)))
    (cases_lt p.0 (length m.objects))))
    (λ (not_so : o.0 ≡ p.0 → ⊥). ap tell (object_other m p o _ not_so))
    (cases_eq o.0 p.0)

objects_stay : (m : Memory) (h : Home) (cells : List Cell) → length (with_home_cells m h cells).objects ≡ length m.objects
objects_stay m OnStack cells = refl
objects_stay m (Inside o) cells = length-set m.objects o.0 _

-- ---- a place

some_cell : (m : Memory) (p : Place) → IsInside m p → HasCells m p.home
some_cell m p inside = omega (arith, inside, shapes.has_cell p.shape)

-- the new cells stand in the place
pub written_cells : (m : Memory) (p : Place) (new : List Cell) → IsInside m p → length new ≡ cell_count p.shape → (k : ℕ) → k < cell_count p.shape
    → cell_at (with_cells m p new) p.home (p.first + k) ≡ slice_get new k
written_cells m p new inside long k lt =
    ap (λ cs. slice_get cs (p.first + k)) (home_same m p.home (put_cells (home_cells m p.home) p.first new) (some_cell m p inside))
    ∙ put_in (home_cells m p.home) p.first new k (omega (arith, lt, long)) (omega (arith, inside, long))

-- and no other cell changes
pub written_place : (m : Memory) (p : Place) (new : List Cell) → IsInside m p → length new ≡ cell_count p.shape → ChangesAt p m (with_cells m p new)
written_place m p new inside long = record {
  others = λ h n out. ⊎_elim
      (λ (e : h ≡ p.home).
      subst (λ g. cell_at (with_cells m p new) g n ≡ cell_at m g n) (sym e)
      (ap (λ cs. slice_get cs n) (home_same m p.home all (some_cell m p inside))
      ∙ put_out (home_cells m p.home) p.first new n (⊎_elim
      (λ (lt : n < p.first). inl lt)
      (λ (le : behind p ≤ n). inr (omega (arith, le, long)))
      (cell_outside p n (out e)))))
      (λ (not_so : h ≡ p.home → ⊥). ap (λ cs. slice_get cs n) (home_other m p.home h all not_so))
      (same_home h p.home);
  sizes = λ h. ⊎_elim
      (λ (e : h ≡ p.home). subst (λ g. length (home_cells (with_cells m p new) g) ≡ length (home_cells m g)) (sym e)
      (ap length (home_same m p.home all (some_cell m p inside)) ∙ put_length (home_cells m p.home) p.first new))
      (λ (not_so : h ≡ p.home → ⊥). ap length (home_other m p.home h all not_so))
      (same_home h p.home);
  objects = objects_stay m p.home all;
  phases = λ o. kept_of (λ x. x.phase) (λ x cells. refl) m p.home all o;
  classes = λ o. kept_of (λ x. x.class) (λ x cells. refl) m p.home all o;
}
  where
    all : List Cell
    all = put_cells (home_cells m p.home) p.first new

-- all the same
one_cell : (c : Cell) (m : Memory) (p : Place) → IsInside m p → AreCells (λ o. o ≡ Some c) (with_cells m p (replicate (cell_count p.shape) c)) p
one_cell c m p inside = each_cell (λ o. o ≡ Some c) _ p (λ k lt.
    written_cells m p (replicate (cell_count p.shape) c) inside (length-replicate (cell_count p.shape) c) k lt ∙ get_replicate (cell_count p.shape) c k lt)

pub filled_full : (m : Memory) (p : Place) (x : Value) → IsInside m p → fits p.shape x ≡ true → IsPlace true (filled m p x) p
filled_full m p x inside h = each_cell IsFullCell _ p (λ k lt.
    subst IsFullCell (sym (written_cells m p ((in_cells p.shape).cells x) inside (cells_length p.shape x h) k lt)) (cells_full p.shape x h k lt))

pub filled_changes : (m : Memory) (p : Place) (x : Value) → IsInside m p → fits p.shape x ≡ true → ChangesAt p m (filled m p x)
filled_changes m p x inside h = written_place m p ((in_cells p.shape).cells x) inside (cells_length p.shape x h)

pub emptied_empty : (m : Memory) (p : Place) → IsInside m p → IsPlace false (emptied m p) p
emptied_empty = one_cell Empty

pub emptied_changes : (m : Memory) (p : Place) → IsInside m p → ChangesAt p m (emptied m p)
emptied_changes m p inside = written_place m p (replicate (cell_count p.shape) Empty) inside (length-replicate (cell_count p.shape) Empty)

pub removed_changes : (m : Memory) (p : Place) → IsInside m p → ChangesAt p m (removed m p)
removed_changes m p inside = written_place m p (replicate (cell_count p.shape) Gone) inside (length-replicate (cell_count p.shape) Gone)

-- ---- a new slot

pub slots_new : AreSlotsNew
slots_new m s = (
  λ n lt. get_left m.stack (empty_slot s) n lt,
  λ k lt. get_right m.stack (empty_slot s) k ∙ get_replicate (cell_count s) Empty k lt,
  length-append m.stack (empty_slot s) ∙ ap (λ n. length m.stack + n) (length-replicate (cell_count s) Empty),
)
