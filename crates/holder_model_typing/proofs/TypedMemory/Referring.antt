-- The objects that typed values, cells and places name were made.
use Rattle.std.proofs.Common.{◌≡◌, ◌++◌, inl, inr, List, [], ◌∷◌, Bool, true, false, Some, cond, refl, sym, subst}
use Rattle.std.specs.Prelude.{slice_get}
use Rattle.std.specs.List.{All, AllZip, flat_map}
use Rattle.std.proofs.lemmas.List.Elements.{All-head, All-tail}
use Rattle.sil_ast.specs.declared.decl.Storage.{Storage}
use Rattle.sil_ast.specs.declared.module.Module.{Module}
use Rattle.sil_ast.specs.declared.place.ObjectId.{ObjectId}
use Rattle.numbered_form.specs.Lists.{Each}
use Rattle.numbered_form.specs.Names.{Name}
use Rattle.holder_model.specs.holder_model_values.RunValues.Cells.{Cell}
use Rattle.holder_model.specs.holder_model_values.RunValues.Memory.{Memory, Object, is_dead_phase, object_at}
use Rattle.holder_model.specs.holder_model_values.RunValues.Places.{Place, cells_at}
use Rattle.holder_model.specs.holder_model_values.RunValues.Shapes.{Shape}
use Rattle.holder_model.specs.holder_model_values.RunValues.Values.{Value, references_of}
use Rattle.holder_model.proofs.holder_model_values.ValueParts.Suiting.{suits_known}
use Rattle.holder_model.specs.Data.{Datum, home_references, references_in}
use Rattle.holder_model.specs.Holders.{kept_references, same_storage}
use Rattle.holder_model.specs.RunTyping.Forms.{Form}
use Rattle.holder_model_typing.specs.TypedMemory.inner.Worlds.{CellIs, DatumIs, MemoryIs, ObjectIs, PlaceIs, Suits, World, cell_shapes, fields_of_class, names}
use Rattle.holder_model_typing.proofs.TypedMemory.Homes.{PlaceCells, object_is, place_cells}
use Rattle.holder_model_typing.proofs.TypedMemory.Naming.{named_by}

-- an object that was made
abbrev pub WasMade : World → ObjectId → Type 0
WasMade w o = (class : Name) × (slice_get w.classes o.0 ≡ Some class)

each_of_all : {A : Type 0} (P : A → Type 0) (xs : List A) → All P xs → Each P xs
each_of_all P [] h = tt
each_of_all P (x ∷ xs) h = (All-head P x xs h, each_of_all P xs (All-tail P x xs h))

each_both : {A : Type 0} (P : A → Type 0) (xs ys : List A) → Each P xs → Each P ys → Each P (xs ++ ys)
each_both P [] ys h k = k
each_both P (x ∷ xs) ys h k = (h.0, each_both P xs ys h.1 k)

module _ (m : Module) (w : World) where
  pub named_was_made : (class : Name) (o : ObjectId) → names m w class o ≡ true → WasMade w o
  named_was_made class o h = let by = named_by m w class o h in (by.own, by.there)

  pub references_made : (s : Shape) (x : Value) → Suits m w s x → Each (WasMade w) (references_of x)
  references_made s x h = each_of_all (WasMade w) (references_of x) (suits_known (names m w) (WasMade w) named_was_made s x h)

  pub home_made : (p : Place) → PlaceIs m w p → Each (WasMade w) (home_references p.home)
  home_made p (PlaceIs.on_stack home at) = subst (λ h. Each (WasMade w) (home_references h)) (sym home) tt
  home_made p (PlaceIs.inside o class home there at) = subst (λ h. Each (WasMade w) (home_references h)) (sym home) ((class, there), tt)

  pub data_made : (form : Form) (x : Datum) → DatumIs m w form x → Each (WasMade w) (references_in x)
  data_made _ _ (DatumIs.value s x h) = references_made s x h
  data_made _ _ (DatumIs.place p at) = home_made p at
  data_made _ _ (DatumIs.function g) = tt

  -- what cells keep, in whichever way

  kept_made : (b : Bool) (os : List ObjectId) → Each (WasMade w) os → Each (WasMade w) (cond b os [])
  kept_made true os h = h
  kept_made false os h = tt

  cell_made : (how : Storage) (s : Shape) (c : Cell) → CellIs m w s c → Each (WasMade w) (kept_references how c)
  cell_made how s _ CellIs.gone = tt
  cell_made how s _ CellIs.empty = tt
  cell_made how s _ (CellIs.keeps x h) = kept_made (same_storage how _) (references_of x) (references_made s x h)

  pub cells_made : (how : Storage) (ss : List Shape) (cells : List Cell) → AllZip (CellIs m w) ss cells → Each (WasMade w) (flat_map (kept_references how) cells)
  cells_made how [] [] h = tt
  cells_made how [] (c ∷ cells) h = absurd h
  cells_made how (s ∷ ss) [] h = absurd h
  cells_made how (s ∷ ss) (c ∷ cells) h =
      each_both (WasMade w) (kept_references how c) (flat_map (kept_references how) cells) (cell_made how s c h.0) (cells_made how ss cells h.1)

  some_cells_made : (how : Storage) (s : Shape) (cells : List Cell) → PlaceCells m w s cells → Each (WasMade w) (flat_map (kept_references how) cells)
  some_cells_made how s cells (inl h) = cells_made how (cell_shapes s) cells h
  some_cells_made how s cells (inr none) = subst (λ cs. Each (WasMade w) (flat_map (kept_references how) cs)) (sym none) tt

  own_cells_made : (how : Storage) (class : Name) (x : Object) → ObjectIs m w class x → (b : Bool) → is_dead_phase x.phase ≡ b → Each (WasMade w) (flat_map (kept_references how) x.cells)
  own_cells_made how class x is true dead = subst (λ cs. Each (WasMade w) (flat_map (kept_references how) cs)) (sym (is.ended dead)) tt
  own_cells_made how class x is false alive = cells_made how (flat_map cell_shapes (fields_of_class m w class)) x.cells (is.cells alive)

  module _ (memory : Memory) (typed : MemoryIs m w memory) where
    pub place_references_made : (how : Storage) (p : Place) → PlaceIs m w p → Each (WasMade w) (flat_map (kept_references how) (cells_at memory p))
    place_references_made how p at = some_cells_made how p.shape (cells_at memory p) (place_cells m w memory typed p at)

    pub object_references_made : (how : Storage) (o : ObjectId) → WasMade w o → Each (WasMade w) (flat_map (kept_references how) (object_at memory o).cells)
    object_references_made how o made =
        let x = object_at memory o in
        own_cells_made how made.0 x (object_is m w memory typed o made.0 made.1) (is_dead_phase x.phase) refl
