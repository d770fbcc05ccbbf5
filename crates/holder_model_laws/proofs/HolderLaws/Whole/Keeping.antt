-- What keeps memory naming whole objects alone.
use Rattle.std.proofs.Common.{◌≡◌, ◌<◌, ◌≤◌, ◌+◌, ◌++◌, ⊎_elim, ℕ, List, [], ◌∷◌, length, replicate, slice_get, Some, true, refl, sym, ap, ◌∙◌, subst, arith, drop}
use Rattle.std.specs.Prelude.{unwrap_or}
use Rattle.std.specs.List.{flat_map}
use Rattle.std.proofs.lemmas.Bool.{cases_eq, cases_lt}
use Rattle.std.proofs.lemmas.List.{length-append, length-set}
use Rattle.std.proofs.lemmas.Option.{same_Some}
use Rattle.holder_model.specs.Dropping.{ended}
use Rattle.holder_model.specs.Holders.{kept_references}
use Rattle.holder_model_laws.specs.HolderLaws.inner.Cells.Cells.{IsFullCell, IsGoneCell, cell_at}
use Rattle.holder_model_laws.proofs.HolderLaws.Cells.Kept.{cells_full}
use Rattle.holder_model_laws.proofs.HolderLaws.Cells.Lists.{get_left, get_right}
use Rattle.holder_model_laws.proofs.HolderLaws.Cells.PlaceCells.{each_cell, get_cell, there_cell}
use Rattle.holder_model_laws.proofs.HolderLaws.Cells.Writes.{no_cells, object_other, object_same}
use Rattle.numbered_form.specs.Lists.{Each}
use Rattle.numbered_form.specs.Names.{Name}
use Rattle.holder_model.specs.holder_model_values.RunValues.Cells.{Cell, Empty, Gone, Keeps, cell_count, in_cells}
use Rattle.holder_model.specs.holder_model_values.RunValues.inner.Fits.{fits}
use Rattle.holder_model.specs.holder_model_values.declared.run_values.phase.Phase.TheVariants.{Live}
use Rattle.holder_model.specs.holder_model_values.RunValues.Memory.{Memory, Object, no_object, object_at, put_cells, with_object}
use Rattle.holder_model.specs.holder_model_values.RunValues.Places.{Home, Inside, OnStack, Place, cells_at, empty_fields, empty_slot, filled, home_cells, with_cells}
use Rattle.holder_model.specs.holder_model_values.RunValues.Shapes.{Shape}
use Rattle.holder_model.specs.holder_model_values.RunValues.Values.{Value}
use Rattle.sil_ast.specs.declared.decl.Storage.{Storage}
use Rattle.sil_ast.specs.declared.decl.Storage.TheVariants as storage
use Rattle.sil_ast.specs.declared.place.ObjectId.{ObjectId}
use Rattle.holder_model.proofs.holder_model_values.ValueParts.Cells.{cells_length}
use Rattle.holder_model_laws.specs.HolderLaws.inner.Whole.Whole.{IsWhole, IsWholeMemory, NameWhole, StayWhole, cell_references}
use Rattle.holder_model_laws.specs.HolderLaws.inner.Whole.Laws.{AreEndedWhole, AreFieldsFull, AreFilledWhole, AreMadeWhole, AreReadWhole, AreTakenWhole, KeepsWhole}
use Rattle.holder_model_laws.proofs.HolderLaws.Whole.CellNames.{cells_name, kept_names, value_names}
use Rattle.holder_model_laws.proofs.HolderLaws.Whole.Lists.{each_append, each_at, each_cut, each_flat, each_from, each_of, each_put, each_replicate, get_within}

abbrev Named : Memory → Cell → Type 0
Named m c = NameWhole m (cell_references c)

abbrev IsNot : Cell → Cell → Type 0
IsNot other c = c ≡ other → ⊥

-- ---- cells one by one

all_not : (other : Cell) (cells : List Cell) → ((n : ℕ) → slice_get cells n ≡ Some other → ⊥) → Each (IsNot other) cells
all_not other cells h = each_from (IsNot other) cells (λ n c e same. h n (e ∙ ap Some same))

none_is : (other : Cell) (cells : List Cell) → Each (IsNot other) cells → (n : ℕ) → slice_get cells n ≡ Some other → ⊥
none_is other cells h n e = each_at (IsNot other) cells n other h e refl

named_at : (m : Memory) → IsWholeMemory m → (p : Place) → Each (Named m) (cells_at m p)
named_at m h p =
    let behind = (each_cut (Named m) p.first (home_cells m p.home) (h.kept p.home)).1 in
    (each_cut (Named m) (cell_count p.shape) (drop p.first (home_cells m p.home)) behind).0

-- ---- what is read

pub read_whole : AreReadWhole
read_whole m h = (
  λ p x e. value_names (IsWhole m) p.shape (cells_at m p) x (named_at m h p) e,
  λ p. strongly (cells_at m p) (named_at m h p),
  λ o. strongly (object_at m o).cells (h.kept (Inside o)),
)
  where
    strongly : (cells : List Cell) → Each (Named m) cells → NameWhole m (flat_map (kept_references storage.Strong) cells)
    strongly cells k = each_flat (IsWhole m) (kept_references storage.Strong) cells
        (each_of (Named m) (λ c. NameWhole m (kept_references storage.Strong c)) (kept_names (IsWhole m) storage.Strong) cells k)

pub fields_full : AreFieldsFull
fields_full m h o whole p at inside = each_cell IsFullCell m p (λ k lt.
    let c = there_cell m p inside k lt in
    let is : cell_at m p.home (p.first + k) ≡ Some c.0 = sym (get_cell m p k lt) ∙ c.1 in
    is_full c.0 (p.first + k) is)
  where
    is_full : (c : Cell) (n : ℕ) → cell_at m p.home n ≡ Some c → IsFullCell (cell_at m p.home n)
    is_full Gone n e = absurd (h.there o n (subst (λ g. cell_at m g n ≡ Some Gone) at e))
    is_full Empty n e = absurd (whole.written n (subst (λ g. cell_at m g n ≡ Some Empty) at e))
    is_full (Keeps how x) n e = (how, x, e)

-- ---- an object is changed

same_number : (o p : ObjectId) → o.0 ≡ p.0 → o ≡ p
same_number o p e = ap (λ (n : ℕ). record { 0 = n }) e

module _ (P : Cell → Type 0) (m : Memory) (o : ObjectId) (x : Object) where
  cells_behind : (q : ObjectId) → (q ≡ o → Each P x.cells) → Each P (object_at m q).cells → Each P (object_at (with_object m o x) q).cells
  cells_behind q new old = ⊎_elim
      (λ (e : q.0 ≡ o.0). ⊎_elim
      (λ (lt : o.0 < length m.objects).
      subst (λ r. Each P (object_at (with_object m o x) r).cells) (sym (same_number q o e))
      (subst (λ y. Each P y.cells) (sym (object_same m o x lt)) (new (same_number q o e))))
      (λ (le : length m.objects ≤ o.0).
      subst (λ y. Each P y.cells) (sym (no_cells (with_object m o x) q (omega (arith, e, le, length-set m.objects o.0 x)))) tt)
      (cases_lt o.0 (length m.objects)))
      (λ (not_so : q.0 ≡ o.0 → ⊥). subst (λ y. Each P y.cells) (sym (object_other m o q x not_so)) old)
      (cases_eq q.0 o.0)

-- no cell of the object changes but those that are full of what is whole, or all go
module _ (m : Memory) (h : IsWholeMemory m) (o : ObjectId) (x : Object) where
  changed_whole : Each (IsNot Gone) x.cells → (IsWhole m o → Each (IsNot Empty) x.cells) → Each (Named m) x.cells → KeepsWhole m (with_object m o x)
  changed_whole there written named = (record { there = gone; kept = kept }, stay)
    where
      later : Memory
      later = with_object m o x

      stay : StayWhole m (with_object m o x)
      stay q whole = record {
        made = omega (arith, whole.made, length-set m.objects o.0 x);
        written = none_is Empty (object_at (with_object m o x) q).cells (cells_behind (IsNot Empty) m o x q
            (λ e. written (subst (IsWhole m) e whole)) (all_not Empty (object_at m q).cells whole.written));
      }

      gone : (q : ObjectId) (n : ℕ) → IsGoneCell (cell_at (with_object m o x) (Inside q) n) → ⊥
      gone q = none_is Gone (object_at (with_object m o x) q).cells (cells_behind (IsNot Gone) m o x q (λ e. there) (all_not Gone (object_at m q).cells (h.there q)))

      still : (c : Cell) → Named m c → Named (with_object m o x) c
      still c = each_of (IsWhole m) (IsWhole (with_object m o x)) stay (cell_references c)

      kept : (g : Home) → Each (Named (with_object m o x)) (home_cells (with_object m o x) g)
      kept OnStack = each_of (Named m) (Named (with_object m o x)) still m.stack (h.kept OnStack)
      kept (Inside q) = each_of (Named m) (Named (with_object m o x)) still (object_at (with_object m o x) q).cells
          (cells_behind (Named m) m o x q (λ e. named) (h.kept (Inside q)))

-- ---- the stack is changed

module _ (m : Memory) (h : IsWholeMemory m) (cells : List Cell) where
  stack_whole : Each (Named m) cells → KeepsWhole m (record m { stack = cells })
  stack_whole named = (record { there = h.there; kept = kept }, stay)
    where
      stay : StayWhole m (record m { stack = cells })
      stay q whole = record { made = whole.made; written = whole.written }

      still : (c : Cell) → Named m c → Named (record m { stack = cells }) c
      still c = each_of (IsWhole m) (IsWhole (record m { stack = cells })) stay (cell_references c)

      kept : (g : Home) → Each (Named (record m { stack = cells })) (home_cells (record m { stack = cells }) g)
      kept OnStack = each_of (Named m) (Named (record m { stack = cells })) still cells named
      kept (Inside q) = each_of (Named m) (Named (record m { stack = cells })) still (object_at m q).cells (h.kept (Inside q))

-- ---- a place is written

new_full : (s : Shape) (x : Value) → fits s x ≡ true → (other : Cell) → ((how : Storage) (y : Value) → Keeps how y ≡ other → ⊥) → Each (IsNot other) ((in_cells s).cells x)
new_full s x fit other differs = each_from (IsNot other) ((in_cells s).cells x) (λ k c e same.
    let lt : k < cell_count s = omega (arith, get_within ((in_cells s).cells x) k c e, cells_length s x fit) in
    let full = cells_full s x fit k lt in
    differs full.0 full.1 (same_Some (Keeps full.0 full.1) c (sym full.2 ∙ e) ∙ same))

pub filled_whole : AreFilledWhole
filled_whole m h p inside x fit named = by_home p.home refl
  where
    new : List Cell
    new = (in_cells p.shape).cells x

    named_new : Each (Named m) ((in_cells p.shape).cells x)
    named_new = cells_name (IsWhole m) p.shape x named

    not_gone : Each (IsNot Gone) ((in_cells p.shape).cells x)
    not_gone = new_full p.shape x fit Gone (λ how y e. cc)

    not_empty : Each (IsNot Empty) ((in_cells p.shape).cells x)
    not_empty = new_full p.shape x fit Empty (λ how y e. cc)

    by_home : (g : Home) → p.home ≡ g → KeepsWhole m (filled m p x)
    by_home OnStack e =
        subst (λ g. KeepsWhole m (with_cells m (record p { home = g }) ((in_cells p.shape).cells x))) (sym e)
        (stack_whole m h (put_cells m.stack p.first ((in_cells p.shape).cells x)) (each_put (Named m) m.stack p.first ((in_cells p.shape).cells x) (h.kept OnStack) named_new))
    by_home (Inside o) e =
        subst (λ g. KeepsWhole m (with_cells m (record p { home = g }) ((in_cells p.shape).cells x))) (sym e)
        (changed_whole m h o (record (object_at m o) { cells = put_cells (object_at m o).cells p.first ((in_cells p.shape).cells x) })
        (each_put (IsNot Gone) (object_at m o).cells p.first ((in_cells p.shape).cells x) (all_not Gone (object_at m o).cells (h.there o)) not_gone)
        (λ whole. each_put (IsNot Empty) (object_at m o).cells p.first ((in_cells p.shape).cells x) (all_not Empty (object_at m o).cells whole.written) not_empty)
        (each_put (Named m) (object_at m o).cells p.first ((in_cells p.shape).cells x) (h.kept (Inside o)) named_new))

pub taken_whole : AreTakenWhole
taken_whole m h p inside at = (one Empty tt, one Gone tt)
  where
    one : (c : Cell) → Named m c → KeepsWhole m (with_cells m p (replicate (cell_count p.shape) c))
    one c k =
        subst (λ g. KeepsWhole m (with_cells m (record p { home = g }) (replicate (cell_count p.shape) c))) (sym at)
        (stack_whole m h (put_cells m.stack p.first (replicate (cell_count p.shape) c))
        (each_put (Named m) m.stack p.first (replicate (cell_count p.shape) c) (h.kept OnStack) (each_replicate (Named m) (cell_count p.shape) c k)))

-- ---- what is made

abbrev pub with_new : Memory → Object → Memory
with_new m x = record m { objects = m.objects ++ x ∷ [] }

pub object_left : (m : Memory) (x : Object) (q : ObjectId) → q.0 < length m.objects → object_at (with_new m x) q ≡ object_at m q
object_left m x q lt = ap (λ y. unwrap_or y no_object) (get_left m.objects (x ∷ []) q.0 lt)

pub object_new : (m : Memory) (x : Object) (q : ObjectId) → q.0 ≡ length m.objects → object_at (with_new m x) q ≡ x
object_new m x q e =
    let at : q.0 ≡ length m.objects + 0 = omega (arith, e) in
    ap (λ n. unwrap_or (slice_get (m.objects ++ x ∷ []) n) no_object) at ∙ ap (λ y. unwrap_or y no_object) (get_right m.objects (x ∷ []) 0)

module _ (P : Cell → Type 0) (m : Memory) (x : Object) where
  cells_with_new : (q : ObjectId) → Each P x.cells → Each P (object_at m q).cells → Each P (object_at (with_new m x) q).cells
  cells_with_new q new old = ⊎_elim
      (λ (lt : q.0 < length m.objects). subst (λ y. Each P y.cells) (sym (object_left m x q lt)) old)
      (λ (le : length m.objects ≤ q.0). ⊎_elim
      (λ (e : q.0 ≡ length m.objects). subst (λ y. Each P y.cells) (sym (object_new m x q e)) new)
      (λ (not_so : q.0 ≡ length m.objects → ⊥).
      let long = length-append m.objects (x ∷ []) in
      let past : length (with_new m x).objects ≤ q.0 = omega (arith, le, not_so, long) in
      subst (λ y. Each P y.cells) (sym (no_cells (with_new m x) q past)) tt)
      (cases_eq q.0 (length m.objects)))
      (cases_lt q.0 (length m.objects))

new_whole : (m : Memory) → IsWholeMemory m → (class : Name) (fields : List Shape)
    → KeepsWhole m (with_new m (record { class = class; phase = Live; cells = empty_fields fields }))
new_whole m h class fields = (record { there = gone; kept = kept }, stay)
  where
    x : Object
    x = record { class = class; phase = Live; cells = empty_fields fields }

    stay : StayWhole m (with_new m (record { class = class; phase = Live; cells = empty_fields fields }))
    stay q whole = record {
      made = omega (arith, whole.made, length-append m.objects (record { class = class; phase = Live; cells = empty_fields fields } ∷ []));
      written = λ n e. whole.written n (sym (ap (λ y. slice_get y.cells n) (object_left m (record { class = class; phase = Live; cells = empty_fields fields }) q whole.made)) ∙ e);
    }

    gone : (q : ObjectId) (n : ℕ) → IsGoneCell (cell_at (with_new m (record { class = class; phase = Live; cells = empty_fields fields })) (Inside q) n) → ⊥
    gone q = none_is Gone (object_at (with_new m (record { class = class; phase = Live; cells = empty_fields fields })) q).cells
        (cells_with_new (IsNot Gone) m (record { class = class; phase = Live; cells = empty_fields fields }) q
        (each_replicate (IsNot Gone) _ Empty (λ e. cc)) (all_not Gone (object_at m q).cells (h.there q)))

    still : (c : Cell) → Named m c → Named (with_new m (record { class = class; phase = Live; cells = empty_fields fields })) c
    still c = each_of (IsWhole m) (IsWhole (with_new m (record { class = class; phase = Live; cells = empty_fields fields }))) stay (cell_references c)

    kept : (g : Home)
        → Each (Named (with_new m (record { class = class; phase = Live; cells = empty_fields fields })))
        (home_cells (with_new m (record { class = class; phase = Live; cells = empty_fields fields })) g)
    kept OnStack = each_of (Named m) _ still m.stack (h.kept OnStack)
    kept (Inside q) = each_of (Named m) _ still (object_at (with_new m (record { class = class; phase = Live; cells = empty_fields fields })) q).cells
        (cells_with_new (Named m) m (record { class = class; phase = Live; cells = empty_fields fields }) q (each_replicate (Named m) _ Empty tt) (h.kept (Inside q)))

pub made_whole : AreMadeWhole
made_whole m h = (
  λ class fields. new_whole m h class fields,
  λ s. stack_whole m h (m.stack ++ empty_slot s) (each_append (Named m) m.stack (empty_slot s) (h.kept OnStack) (each_replicate (Named m) (cell_count s) Empty tt)),
)

-- ---- an object changes its phase, or dies

pub ended_whole : AreEndedWhole
ended_whole m h = (
  λ phase o. changed_whole m h o (record (object_at m o) { phase = phase }) (all_not Gone (object_at m o).cells (h.there o))
      (λ whole. all_not Empty (object_at m o).cells whole.written) (h.kept (Inside o)),
  λ o. changed_whole m h o (ended (object_at m o)) tt (λ whole. tt) tt,
)
