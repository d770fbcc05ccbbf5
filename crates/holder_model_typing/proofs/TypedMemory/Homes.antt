-- Places in typed memory: what is read there is typed, and memory stays typed where cells of the place's shape are put there.
use Rattle.std.proofs.Common.{◌≡◌, ◌⊎◌, inl, inr, ℕ, zero, suc, List, [], ◌∷◌, Bool, true, false, Option, Some, take, drop, replicate, refl, sym, ap, ◌∙◌, subst}
use Rattle.std.specs.Prelude.{slice_get, unwrap_or}
use Rattle.std.specs.List.{AllZip}
use Rattle.std.proofs.lemmas.Option.{none-some, same_Some}
use Rattle.sil_ast.specs.declared.module.Module.{Module}
use Rattle.sil_ast.specs.declared.place.ObjectId.{ObjectId}
use Rattle.numbered_form.specs.Names.{Name}
use Rattle.holder_model.specs.holder_model_values.RunValues.Cells.{Cell, Empty, Gone, cell_count, in_cells}
use Rattle.holder_model.specs.holder_model_values.RunValues.Memory.{Memory, Object, is_dead_phase, no_object, object_at, put_cells, with_object}
use Rattle.holder_model.specs.holder_model_values.RunValues.Places.{Place, cells_at, emptied, filled, home_cells, removed, value_at, with_cells, with_home_cells}
use Rattle.holder_model.specs.holder_model_values.RunValues.Shapes.{Shape}
use Rattle.holder_model.specs.holder_model_values.RunValues.Values.{Value}
use Rattle.holder_model_typing.specs.TypedMemory.inner.Worlds.{CellIs, CellsAre, IsIn, MemoryIs, ObjectIs, PlaceIs, Suits, World, cell_shapes, fields_of_class}
use Rattle.holder_model_typing.proofs.TypedMemory.CellShapes.{place_within, shape_count}
use Rattle.holder_model_typing.proofs.TypedMemory.CellsTyped.{cells_typed, no_cells, nothing_is_none, values_typed}
use Rattle.holder_model_typing.proofs.TypedMemory.Zips.{zip_at, zip_put, zip_read, zip_replicate, zip_set}

none_there : (n i : ℕ) → take n (drop i no_cells) ≡ []
none_there zero zero = refl
none_there zero (suc i) = refl
none_there (suc n) zero = refl
none_there (suc n) (suc i) = refl

put_nowhere : (i : ℕ) (new : List Cell) → put_cells [] i new ≡ []
put_nowhere zero [] = refl
put_nowhere (suc i) [] = refl
put_nowhere zero (c ∷ cs) = refl
put_nowhere (suc i) (c ∷ cs) = refl

module _ (m : Module) (w : World) where
  -- cells of a shape, all the same
  pub same_cells : (c : Cell) → ((s : Shape) → CellIs m w s c) → (s : Shape) → AllZip (CellIs m w) (cell_shapes s) (replicate (cell_count s) c)
  same_cells c any s = zip_replicate (CellIs m w) (cell_shapes s) (cell_count s) c (shape_count s) any

  -- the cells of a place, or none where its object is dead
  abbrev pub PlaceCells : Shape → List Cell → Type 0
  PlaceCells s cells = AllZip (CellIs m w) (cell_shapes s) cells ⊎ (cells ≡ [])

  cells_in : (shapes : List Shape) (p : Place) → IsIn shapes p → (cells : List Cell) → CellsAre m w shapes cells
      → AllZip (CellIs m w) (cell_shapes p.shape) (take (cell_count p.shape) (drop p.first cells))
  cells_in shapes p at cells h = zip_read (CellIs m w) (place_within shapes p at) (cell_count p.shape) (shape_count p.shape) cells h

  -- what is read of an object
  object_cells : (class : Name) (p : Place) → IsIn (fields_of_class m w class) p → (x : Object) → ObjectIs m w class x → (b : Bool) → is_dead_phase x.phase ≡ b
      → PlaceCells p.shape (take (cell_count p.shape) (drop p.first x.cells))
  object_cells class p at x is true dead = inr (ap (λ cs. take (cell_count p.shape) (drop p.first cs)) (is.ended dead) ∙ none_there (cell_count p.shape) p.first)
  object_cells class p at x is false alive = inl (cells_in (fields_of_class m w class) p at x.cells (is.cells alive))

  fields_put : (class : Name) (p : Place) → IsIn (fields_of_class m w class) p → (new : List Cell) → AllZip (CellIs m w) (cell_shapes p.shape) new → (x : Object) → ObjectIs m w class x
      → ObjectIs m w class (record x { cells = put_cells x.cells p.first new })
  fields_put class p at new h x is = record {
    is = is.is;
    cells = λ alive. zip_put (CellIs m w) (place_within (fields_of_class m w class) p at) x.cells new (is.cells alive) h;
    ended = λ dead. ap (λ cs. put_cells cs p.first new) (is.ended dead) ∙ put_nowhere p.first new;
  }

  value_read : (s : Shape) (cells : List Cell) (x : Value) → PlaceCells s cells → (in_cells s).value cells ≡ Some x → Suits m w s x
  value_read s cells x (inl h) e = values_typed m w s cells x h e
  value_read s cells x (inr none) e = absurd (none-some x (sym (ap (in_cells s).value none ∙ nothing_is_none s) ∙ e))

  module _ (memory : Memory) (typed : MemoryIs m w memory) where
    pub object_is : (o : ObjectId) (class : Name) → slice_get w.classes o.0 ≡ Some class → ObjectIs m w class (object_at memory o)
    object_is o class e =
        let at = zip_at (ObjectIs m w) w.classes memory.objects o.0 class typed.objects e in
        subst (ObjectIs m w class) (sym (ap (λ (x : Option Object). unwrap_or x no_object) at.1)) at.2

    -- another object in its place
    pub object_put : (o : ObjectId) (x : Object) → ((class : Name) → slice_get w.classes o.0 ≡ Some class → ObjectIs m w class x) → MemoryIs m w (with_object memory o x)
    object_put o x is = record { stack = typed.stack; objects = zip_set (ObjectIs m w) w.classes memory.objects o.0 x typed.objects is }

    pub place_cells : (p : Place) → PlaceIs m w p → PlaceCells p.shape (cells_at memory p)
    place_cells p (PlaceIs.on_stack home at) =
        subst (λ h. PlaceCells p.shape (take (cell_count p.shape) (drop p.first (home_cells memory h)))) (sym home) (inl (cells_in w.slots p at memory.stack typed.stack))
    place_cells p (PlaceIs.inside o class home there at) =
        let x = object_at memory o in
        subst (λ h. PlaceCells p.shape (take (cell_count p.shape) (drop p.first (home_cells memory h)))) (sym home)
        (object_cells class p at x (object_is o class there) (is_dead_phase x.phase) refl)

    pub place_read : (p : Place) (x : Value) → PlaceIs m w p → value_at memory p ≡ Some x → Suits m w p.shape x
    place_read p x at e = value_read p.shape (cells_at memory p) x (place_cells p at) e

    -- cells of the place's shape are put there

    pub place_put : (p : Place) (new : List Cell) → PlaceIs m w p → AllZip (CellIs m w) (cell_shapes p.shape) new → MemoryIs m w (with_cells memory p new)
    place_put p new (PlaceIs.on_stack home at) h =
        subst (λ a. MemoryIs m w (with_home_cells memory a (put_cells (home_cells memory a) p.first new))) (sym home)
        (record { stack = zip_put (CellIs m w) (place_within w.slots p at) memory.stack new typed.stack h; objects = typed.objects })
    place_put p new (PlaceIs.inside o class home there at) h =
        subst (λ a. MemoryIs m w (with_home_cells memory a (put_cells (home_cells memory a) p.first new))) (sym home)
        (object_put o (record (object_at memory o) { cells = put_cells (object_at memory o).cells p.first new })
        (λ other e. subst (λ c. ObjectIs m w c (record (object_at memory o) { cells = put_cells (object_at memory o).cells p.first new }))
        (same_Some class other (sym there ∙ e)) (fields_put class p at new h (object_at memory o) (object_is o class there))))

    pub place_filled : (p : Place) (x : Value) → PlaceIs m w p → Suits m w p.shape x → MemoryIs m w (filled memory p x)
    place_filled p x at h = place_put p ((in_cells p.shape).cells x) at (cells_typed m w p.shape x h)

    pub place_emptied : (p : Place) → PlaceIs m w p → MemoryIs m w (emptied memory p)
    place_emptied p at = place_put p (replicate (cell_count p.shape) Empty) at (same_cells Empty (λ s. CellIs.empty) p.shape)

    pub place_removed : (p : Place) → PlaceIs m w p → MemoryIs m w (removed memory p)
    place_removed p at = place_put p (replicate (cell_count p.shape) Gone) at (same_cells Gone (λ s. CellIs.gone) p.shape)
