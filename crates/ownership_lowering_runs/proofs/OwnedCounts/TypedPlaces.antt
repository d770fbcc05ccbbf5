-- Places of typed memory: their cells are there, and what they name has numbers.
use Rattle.std.proofs.Common.{◌≡◌, ℕ, ◌+◌, ◌<◌, ◌≤◌, List, [], ◌∷◌, ◌++◌, length, sym, ap, ◌∙◌, subst, arith}
use Rattle.std.specs.List.{flat_map}
use Rattle.std.proofs.lemmas.List.{length-append}
use Rattle.std.proofs.lemmas.Option.{slice_get_within}
use Rattle.std.proofs.lemmas.Slice.Zip.{AllZip-long}
use Rattle.numbered_form.specs.Lists.{Each}
use Rattle.sil_ast.specs.declared.decl.Storage.TheVariants as storage
use Rattle.sil_ast.specs.declared.module.Module.{Module}
use Rattle.sil_ast.specs.declared.place.ObjectId.{ObjectId}
use Rattle.holder_model_values.specs.RunValues.Cells.{Cell, cell_count}
use Rattle.holder_model_values.specs.RunValues.Cells as cells
use Rattle.holder_model_values.specs.RunValues.Memory.{Memory, object_at}
use Rattle.holder_model_values.specs.RunValues.Places.{Place, cells_at, home_cells}
use Rattle.holder_model_values.specs.RunValues.Shapes.{Shape}
use Rattle.holder_model_values.specs.RunValues.Values.{Value}
use Rattle.sil_verifier_runs.specs.holder_model.Outcomes.{Numbers}
use Rattle.sil_verifier_runs.specs.holder_model_laws.HolderLaws.inner.Counts.Keeping.{IsAliveAt, IsWithin}
use Rattle.sil_verifier_runs.specs.holder_model_laws.StoredCounts.inner.Numbers.{AreNamesStored, IsStoredOf}
use Rattle.ownership_lowering_laws.specs.holder_model_typing.TypedMemory.inner.Worlds.{CellIs, CellsAre, IsIn, MemoryIs, ObjectIs, PlaceIs, Suits, World, cell_shapes, fields_of_class}
use Rattle.ownership_lowering_laws.proofs.holder_model_typing.TypedMemory.CellShapes.{place_within, shape_count}
use Rattle.ownership_lowering_laws.proofs.holder_model_typing.TypedMemory.CellsTyped.{cells_typed}
use Rattle.ownership_lowering_laws.proofs.holder_model_typing.TypedMemory.Homes.{object_is}
use Rattle.ownership_lowering_laws.proofs.holder_model_typing.TypedMemory.Referring.{WasMade, cells_made, object_references_made, place_references_made}
use Rattle.ownership_lowering_laws.proofs.holder_model_typing.TypedMemory.Zips.{Within}

each_weaker : {A : Type 0} (P Q : A → Type 0) → ((x : A) → P x → Q x) → (xs : List A) → Each P xs → Each Q xs
each_weaker P Q h [] e = tt
each_weaker P Q h (x ∷ xs) e = (h x e.0, each_weaker P Q h xs e.1)

within_length : {A : Type 0} (whole part : List A) (first : ℕ) → Within whole first part → first + length part ≤ length whole
within_length whole part first h =
    let all : length whole ≡ length h.before + length (part ++ h.behind) = ap length h.splits ∙ length-append h.before (part ++ h.behind) in
    let rest : length (part ++ h.behind) ≡ length part + length h.behind = length-append part h.behind in
    let count = h.count in
    omega (arith, all, rest, count)

module _ (m : Module) (w : World) (memory : Memory) (typed : MemoryIs m w memory) where
  in_shapes : (shapes : List Shape) (p : Place) → IsIn shapes p → (kept : List Cell) → CellsAre m w shapes kept → p.first + cell_count p.shape ≤ length kept
  in_shapes shapes p at kept h =
      let inside = within_length (flat_map cell_shapes shapes) (cell_shapes p.shape) p.first (place_within shapes p at) in
      let size = shape_count p.shape in
      let long : length kept ≡ length (flat_map cell_shapes shapes) = AllZip-long (CellIs m w) (flat_map cell_shapes shapes) kept h in
      omega (arith, inside, size, long)

  -- the cells of a place are there, where its object isn't dead
  pub typed_within : (p : Place) → PlaceIs m w p → IsAliveAt memory p.home → IsWithin memory p
  typed_within p at alive = record { alive = alive; inside = by at }
    where
      by : PlaceIs m w p → p.first + cell_count p.shape ≤ length (home_cells memory p.home)
      by (PlaceIs.on_stack home at) = subst (λ h. p.first + cell_count p.shape ≤ length (home_cells memory h)) (sym home) (in_shapes w.slots p at memory.stack typed.stack)
      by (PlaceIs.inside o class home there at) =
          let is = object_is m w memory typed o class there in
          subst (λ h. p.first + cell_count p.shape ≤ length (home_cells memory h)) (sym home)
          (in_shapes (fields_of_class m w class) p at (object_at memory o).cells (is.cells (subst (IsAliveAt memory) home alive)))

  module _ (stored : List Numbers) (size : length stored ≡ length memory.objects) where
    pub made_stored : (o : ObjectId) → WasMade w o → IsStoredOf stored o
    made_stored o made =
        let below : o.0 < length w.classes = slice_get_within w.classes o.0 made.0 made.1 in
        let long : length memory.objects ≡ length w.classes = AllZip-long (ObjectIs m w) w.classes memory.objects typed.objects in
        omega (arith, below, long, size)

    pub all_stored : (os : List ObjectId) → Each (WasMade w) os → Each (IsStoredOf stored) os
    all_stored os made = each_weaker (WasMade w) (IsStoredOf stored) made_stored os made

    -- what a place names
    pub place_stored : (p : Place) → PlaceIs m w p → AreNamesStored stored (cells_at memory p)
    place_stored p at = record {
      weakly = all_stored _ (place_references_made m w memory typed storage.Weak p at);
      unowned = all_stored _ (place_references_made m w memory typed storage.Unowned p at);
    }

    -- what the fields of an object name
    pub object_stored : (o : ObjectId) → WasMade w o → AreNamesStored stored (object_at memory o).cells
    object_stored o made = record {
      weakly = all_stored _ (object_references_made m w memory typed storage.Weak o made);
      unowned = all_stored _ (object_references_made m w memory typed storage.Unowned o made);
    }

    -- what the cells of a value name
    pub written_stored : (s : Shape) (x : Value) → Suits m w s x → AreNamesStored stored ((cells.in_cells s).cells x)
    written_stored s x good = record {
      weakly = all_stored _ (cells_made m w storage.Weak (cell_shapes s) _ (cells_typed m w s x good));
      unowned = all_stored _ (cells_made m w storage.Unowned (cell_shapes s) _ (cells_typed m w s x good));
    }
