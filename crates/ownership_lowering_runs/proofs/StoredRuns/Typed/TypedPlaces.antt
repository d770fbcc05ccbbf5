-- Places of typed memory: cells of shapes with no storage in them, of storage, and of trivial shapes.
use Rattle.std.proofs.Common.{◌≡◌, inl, inr, List, [], ◌∷◌, ◌++◌, length, refl, sym, ap, ap₂, ◌∙◌, subst, Bool, true, false, Some, None, cond}
use Rattle.std.specs.Prelude.{unwrap_or}
use Rattle.std.specs.List.{AllByRecursion, AllZip, list_all}
use Rattle.std.proofs.lemmas.Bool.{and_parts, and_from, false≢true}
use Rattle.std.proofs.lemmas.Option.{none-some}
use Rattle.std.proofs.lemmas.Slice.Zip.{AllZip-long}
use Rattle.numbered_form.specs.Lists.{Each}
use Rattle.sil_ast.specs.declared.decl.Storage.{Storage}
use Rattle.sil_ast.specs.declared.decl.Storage.TheVariants as storage
use Rattle.sil_ast.specs.declared.module.Module.{Module}
use Rattle.sil_ast.specs.declared.place.ObjectId.{ObjectId}
use Rattle.holder_model_values.specs.RunValues.Cells.{Cell, cell_count, in_cells}
use Rattle.holder_model_values.specs.RunValues.Memory.{Memory}
use Rattle.holder_model_values.specs.RunValues.Places.{Place, cells_at, is_there, is_there_at, value_at}
use Rattle.holder_model_values.specs.RunValues.Shapes.{Shape, Shapes, NoMember, Member, Integer, Reference, Struct, Tuple, Enum, Stored, Unknown, each_by_layers, listed, storage_in}
use Rattle.holder_model_values.specs.RunValues.Trivial.{is_trivial, itself}
use Rattle.holder_model_values.specs.RunValues.Values.{Value}
use Rattle.holder_model_values.specs.ValueParts.inner.Storages.{no_storage_layer}
use Rattle.holder_model_values.proofs.ValueParts.Inductions.{InParts, by_parts}
use Rattle.sil_verifier_runs.specs.holder_model.Holders.{kept_references, same_storage}
use Rattle.sil_verifier_runs.specs.holder_model.MemoryEffects.{references_at}
use Rattle.sil_verifier_runs.specs.holder_model.RunTyping.Forms.{has_no_storage}
use Rattle.sil_verifier_runs.specs.holder_model.RunTyping.StorageForms.{IsNamed}
use Rattle.ownership_lowering_laws.specs.holder_model_typing.TypedMemory.inner.Worlds.{CellIs, MemoryIs, PlaceIs, World, cell_shapes, each_cell_shapes, names}
use Rattle.ownership_lowering_laws.proofs.holder_model_typing.TypedMemory.CellShapes.{shape_count}
use Rattle.ownership_lowering_laws.proofs.holder_model_typing.TypedMemory.CellsTyped.{cells_typed, nothing_is_none}
use Rattle.ownership_lowering_laws.proofs.holder_model_typing.TypedMemory.Homes.{PlaceCells, place_cells}
use Rattle.ownership_lowering_laws.proofs.holder_model_typing.TypedMemory.Trivials.{no_references}
use Rattle.ownership_lowering_runs.proofs.OwnedCounts.TypedCells.{IsTrivial, trivial_cells}
use Rattle.ownership_lowering_runs.specs.StoredRuns.inner.Memories.{MayBeTaken}
use Rattle.ownership_lowering_runs.specs.StoredRuns.inner.TypedPlaces.{ArePlainPlaces, AreStoragePlaces, AreTrivialPlaces, IsPlainPlace}
use Rattle.ownership_lowering_runs.proofs.StoredRuns.FullKept.{IsKept, cells_kept}
use Rattle.ownership_lowering_runs.proofs.StoredRuns.StrongCells.{held, value_holds}
use Rattle.ownership_lowering_runs.proofs.StoredRuns.Typed.TypedCalls.{IsStrong, each_both, strong_taken}

-- ---- shapes with no storage in them

abbrev pub AreBare : Shape → Type 0
AreBare s = has_no_storage s ≡ true → Each IsStrong (cell_shapes s)

each_bare : (ss : Shapes) → AllByRecursion AreBare (listed ss) → list_all itself (each_by_layers no_storage_layer ss) ≡ true → Each IsStrong (each_cell_shapes ss)
each_bare NoMember hs t = tt
each_bare (Member s ss) hs t =
    let parts = and_parts (has_no_storage s) (list_all itself (each_by_layers no_storage_layer ss)) t in
    each_both IsStrong (cell_shapes s) (each_cell_shapes ss) (hs.0 parts.0) (each_bare ss hs.1 parts.1)

shape_bare : (s : Shape) → InParts AreBare s → AreBare s
shape_bare (Integer width) hs t = (refl, tt)
shape_bare (Reference class) hs t = (refl, tt)
shape_bare (Struct name NoMember) hs t = (refl, tt)
shape_bare (Struct name (Member s ss)) hs t = each_bare (Member s ss) hs t
shape_bare (Tuple NoMember) hs t = (refl, tt)
shape_bare (Tuple (Member s ss)) hs t = each_bare (Member s ss) hs t
shape_bare (Enum name cases) hs t = (refl, tt)
shape_bare (Stored how inner) hs t = absurd (false≢true t)
shape_bare Unknown hs t = (refl, tt)

pub bare_cells : (s : Shape) → AreBare s
bare_cells = by_parts AreBare shape_bare

pub bare_whole : (s : Shape) → has_no_storage s ≡ true → storage_in s ≡ None
bare_whole (Integer width) t = refl
bare_whole (Reference class) t = refl
bare_whole (Struct name ss) t = refl
bare_whole (Tuple ss) t = refl
bare_whole (Enum name cases) t = refl
bare_whole (Stored how inner) t = absurd (false≢true t)
bare_whole Unknown t = refl

kept_there : (cells : List Cell) → Each IsKept cells → list_all is_there cells ≡ true
kept_there [] h = refl
kept_there (c ∷ cells) h = and_from (is_there c) (list_all is_there cells) (one c h.0) (kept_there cells h.1)
  where
    one : (c : Cell) → IsKept c → is_there c ≡ true
    one _ (IsKept.kept how x) = refl

module _ (m : Module) (w : World) (memory : Memory) (y : Place) (typed : MemoryIs m w memory) (at : PlaceIs m w y) where
  -- ---- plain places

  module _ (bare : has_no_storage y.shape ≡ true) where
    strong : is_there_at memory y ≡ true → Each MayBeTaken (cells_at memory y)
    strong there = by (place_cells m w memory typed y at)
      where
        by : PlaceCells m w y.shape (cells_at memory y) → Each MayBeTaken (cells_at memory y)
        by (inl cells) = strong_taken m w (cell_shapes y.shape) (cells_at memory y) cells (bare_cells y.shape bare) there
        by (inr none) = subst (Each MayBeTaken) (sym none) tt

    long : (z : Value) → value_at memory y ≡ Some z → length (cells_at memory y) ≡ cell_count y.shape
    long z e = by (place_cells m w memory typed y at)
      where
        by : PlaceCells m w y.shape (cells_at memory y) → length (cells_at memory y) ≡ cell_count y.shape
        by (inl cells) = AllZip-long (CellIs m w) (cell_shapes y.shape) (cells_at memory y) cells ∙ shape_count y.shape
        by (inr none) = absurd (none-some z (sym (nothing_is_none y.shape) ∙ ap (in_cells y.shape).value (sym none) ∙ e))

    plain : IsPlainPlace m w memory y
    plain = record {
      bare = bare_whole y.shape bare;
      strong = strong;
      references = λ z there e. sym (value_holds y.shape (cells_at memory y) z (strong there) (long z e) e);
      new = λ x suits. strong_taken m w (cell_shapes y.shape) ((in_cells y.shape).cells x) (cells_typed m w y.shape x suits) (bare_cells y.shape bare)
          (kept_there ((in_cells y.shape).cells x) (cells_kept y.shape x));
    }

  -- ---- cells that hold nothing

  abbrev HoldsNone : Shape → Type 0
  HoldsNone u = (c : Cell) → CellIs m w u c → kept_references storage.Strong c ≡ []

  none_held : (us : List Shape) (cells : List Cell) → AllZip (CellIs m w) us cells → Each HoldsNone us → held cells ≡ []
  none_held [] [] h k = refl
  none_held [] (c ∷ cells) h k = absurd h
  none_held (u ∷ us) [] h k = absurd h
  none_held (u ∷ us) (c ∷ cells) h k = ap₂ (λ os ps. os ++ ps) (k.0 c h.0) (none_held us cells h.1 k.1)

  place_none : Each HoldsNone (cell_shapes y.shape) → references_at memory y ≡ []
  place_none h = by (place_cells m w memory typed y at)
    where
      by : PlaceCells m w y.shape (cells_at memory y) → held (cells_at memory y) ≡ []
      by (inl cells) = none_held (cell_shapes y.shape) (cells_at memory y) cells h
      by (inr none) = ap held none

  named_none : (how : Storage) (inner : Shape) → IsNamed how inner → HoldsNone (Stored how inner)
  named_none _ _ (IsNamed.weak class name none some) _ CellIs.gone = refl
  named_none _ _ (IsNamed.weak class name none some) _ CellIs.empty = refl
  named_none _ _ (IsNamed.weak class name none some) _ (CellIs.keeps x suits) = refl
  named_none _ _ (IsNamed.unowned class) _ CellIs.gone = refl
  named_none _ _ (IsNamed.unowned class) _ CellIs.empty = refl
  named_none _ _ (IsNamed.unowned class) _ (CellIs.keeps x suits) = refl

  storage_none : (how : Storage) (inner : Shape) → y.shape ≡ Stored how inner → IsNamed how inner → references_at memory y ≡ []
  storage_none how inner is named = place_none (subst (λ u. Each HoldsNone (cell_shapes u)) (sym is) (named_none how inner named, tt))

  trivial_none : (u : Shape) → IsTrivial u → HoldsNone u
  trivial_none u t _ CellIs.gone = refl
  trivial_none u t _ CellIs.empty = refl
  trivial_none u t _ (CellIs.keeps x suits) =
      ap (λ os. cond (same_storage storage.Strong (unwrap_or (storage_in u) storage.Strong)) os []) (no_references (names m w) u x suits t)
      ∙ by (same_storage storage.Strong (unwrap_or (storage_in u) storage.Strong))
    where
      by : (b : Bool) → ◌≡◌ {A = List ObjectId} (cond b [] []) []
      by true = refl
      by false = refl

  all_trivial : (us : List Shape) → Each IsTrivial us → Each HoldsNone us
  all_trivial [] h = tt
  all_trivial (u ∷ us) h = (trivial_none u h.0, all_trivial us h.1)

  trivial_place : is_trivial y.shape ≡ true → references_at memory y ≡ []
  trivial_place t = place_none (all_trivial (cell_shapes y.shape) (trivial_cells y.shape t))

pub are_trivial_places : AreTrivialPlaces
are_trivial_places m w memory y typed at t = trivial_place m w memory y typed at t

pub are_plain_places : ArePlainPlaces
are_plain_places m w memory y typed at bare = plain m w memory y typed at bare

pub are_storage_places : AreStoragePlaces
are_storage_places m w memory y how inner typed at is named = storage_none m w memory y typed at how inner is named
