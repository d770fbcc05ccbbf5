-- The cells of a typed place that is loaded are there, and keep strongly what they keep: no weak or unowned storage is in what is loaded.
use Rattle.std.proofs.Common.{◌≡◌, ◌+◌, ◌≤◌, List, [], ◌∷◌, ◌++◌, length, refl, sym, ap, ◌∙◌, subst, Bool, true, false, ◌||◌, ◌⊎◌, inl, inr, arith}
use Rattle.std.specs.Prelude.{unwrap_or}
use Rattle.std.specs.List.{AllByRecursion, AllZip, flat_map, list_all}
use Rattle.std.proofs.lemmas.Bool.{and_parts, false≢true}
use Rattle.std.proofs.lemmas.List.{length-append}
use Rattle.std.proofs.lemmas.Slice.Zip.{AllZip-long}
use Rattle.numbered_form.specs.Lists.{Each}
use Rattle.sil_ast.specs.declared.decl.Storage.TheVariants as storage
use Rattle.sil_ast.specs.declared.inst.Inst.{Inst}
use Rattle.sil_ast.specs.declared.module.Module.{Module}
use Rattle.sil_ast.specs.declared.place.ObjectId.{ObjectId}
use Rattle.holder_model_values.specs.RunValues.Cells.{Cell, cell_count}
use Rattle.holder_model_values.specs.RunValues.Memory.{Memory, is_dead, object_at}
use Rattle.holder_model_values.specs.RunValues.Places.{Place, cells_at, home_cells}
use Rattle.holder_model_values.specs.RunValues.Shapes.{Shape, Shapes, NoMember, Member, Integer, Reference, Struct, Tuple, Enum, Stored, Unknown, each_by_layers, listed, storage_in}
use Rattle.holder_model_values.specs.RunValues.Trivial.{itself}
use Rattle.holder_model_values.specs.ValueParts.inner.Storages.{holds_no_storage, no_storage_layer}
use Rattle.holder_model_values.proofs.ValueParts.Inductions.{InParts, by_parts}
use Rattle.sil_verifier_frames.proofs.sil_verifier_trails.AcceptedTrails.Tests.{each_of_both}
use Rattle.sil_verifier_frames.specs.holder_model.RunTyping.Forms.{Form, OfPlace, has_no_storage}
use Rattle.sil_verifier_frames.specs.holder_model.RunTyping.RowForms as lowered
use Rattle.sil_verifier_frames.specs.holder_model.RunTyping.RowForms.{RowForms}
use Rattle.sil_verifier_frames.specs.holder_model_typing.OwnedRunTyping.inner.OwnedRows as owned
use Rattle.sil_verifier_frames.specs.holder_model_typing.OwnedRunTyping.inner.OwnedRows.{OwnedRowForms}
use Rattle.sil_verifier_frames.specs.holder_model_typing.TypedMemory.inner.Worlds.{CellIs, DatumIs, IsIn, MemoryIs, PlaceIs, World, cell_shapes, each_cell_shapes, fields_of_class}
use Rattle.sil_verifier_frames.proofs.holder_model_typing.TypedMemory.CellShapes.{place_within, shape_count}
use Rattle.sil_verifier_frames.proofs.holder_model_typing.TypedMemory.Homes.{object_is, place_cells}
use Rattle.sil_verifier_frames.proofs.holder_model_typing.TypedMemory.Zips.{Within}
use Rattle.sil_verifier_frames.proofs.Typed.Data.{read_place}
use Rattle.sil_verifier_frames.specs.holder_model.Data.{AddressOf, Datum, home_references}
use Rattle.sil_verifier_frames.specs.holder_model.Effects.{effect_of}
use Rattle.sil_verifier_frames.specs.holder_model.Frames.{any_dead}
use Rattle.sil_verifier_frames.specs.holder_model.declared.row_effect.RowEffect.{RowEffect}
use Rattle.sil_verifier_frames.specs.holder_model.declared.row_effect.RowEffect.TheVariants as row
use Rattle.sil_verifier_frames.specs.holder_model_laws.HolderLaws.inner.Counts.Keeping.{IsAliveAt, IsWithin, KeepsStrongly}
use Rattle.sil_verifier_frames.specs.holder_model_laws.HolderLaws.inner.Counts.Naming.{IsAlive, IsReadStrongly}
use Rattle.sil_verifier_runs.specs.inner.Guarded.Premises.{LoadTypedStrongly}

-- ---- shapes without weak and unowned storage

abbrev KeptStrongly : Shape → Type 0
KeptStrongly u = unwrap_or (storage_in u) storage.Strong ≡ storage.Strong

abbrev AllStrong : Shape → Type 0
AllStrong s = holds_no_storage s ≡ true → Each KeptStrongly (cell_shapes s)

each_strong : (ss : Shapes) → AllByRecursion AllStrong (listed ss) → list_all itself (each_by_layers no_storage_layer ss) ≡ true → Each KeptStrongly (each_cell_shapes ss)
each_strong NoMember hs h = tt
each_strong (Member s ss) hs h =
    let parts = and_parts (holds_no_storage s) (list_all itself (each_by_layers no_storage_layer ss)) h in
    each_of_both KeptStrongly (cell_shapes s) (each_cell_shapes ss) (hs.0 parts.0) (each_strong ss hs.1 parts.1)

shape_strong : (s : Shape) → InParts AllStrong s → AllStrong s
shape_strong (Integer width) hs h = (refl, tt)
shape_strong (Reference class) hs h = (refl, tt)
shape_strong (Struct name NoMember) hs h = (refl, tt)
shape_strong (Struct name (Member s ss)) hs h = each_strong (Member s ss) hs h
shape_strong (Tuple NoMember) hs h = (refl, tt)
shape_strong (Tuple (Member s ss)) hs h = each_strong (Member s ss) hs h
shape_strong (Enum name cases) hs h = (refl, tt)
shape_strong (Stored how inner) hs h = absurd (false≢true h)
shape_strong Unknown hs h = (refl, tt)

all_strong : (s : Shape) → AllStrong s
all_strong = by_parts AllStrong shape_strong

-- ---- the cells of a place

module _ (m : Module) (w : World) where
  cell_strong : {u : Shape} {c : Cell} → CellIs m w u c → KeptStrongly u → KeepsStrongly c
  cell_strong CellIs.gone k = tt
  cell_strong CellIs.empty k = tt
  cell_strong (CellIs.keeps x good) k = k

  cells_strong : (us : List Shape) (cells : List Cell) → AllZip (CellIs m w) us cells → Each KeptStrongly us → Each KeepsStrongly cells
  cells_strong [] [] h k = tt
  cells_strong [] (c ∷ cells) h k = absurd h
  cells_strong (u ∷ us) [] h k = absurd h
  cells_strong (u ∷ us) (c ∷ cells) h k = (cell_strong h.0 k.0, cells_strong us cells h.1 k.1)

  -- a part lies within the whole
  part_inside : (shapes : List Shape) (p : Place) → IsIn shapes p → (cells : List Cell) → AllZip (CellIs m w) (flat_map cell_shapes shapes) cells
      → p.first + cell_count p.shape ≤ length cells
  part_inside shapes p at cells h = by (place_within shapes p at)
    where
      by : Within (flat_map cell_shapes shapes) p.first (cell_shapes p.shape) → p.first + cell_count p.shape ≤ length cells
      by within =
          let long : length (flat_map cell_shapes shapes) ≡ length cells = sym (AllZip-long (CellIs m w) (flat_map cell_shapes shapes) cells h) in
          let split : length (flat_map cell_shapes shapes) ≡ length within.before + length (cell_shapes p.shape ++ within.behind) =
          ap length within.splits ∙ length-append within.before (cell_shapes p.shape ++ within.behind) in
          let rest = length-append (cell_shapes p.shape) within.behind in
          omega (arith, long, split, rest, within.count, shape_count p.shape)

  module _ (memory : Memory) (typed : MemoryIs m w memory) (p : Place) (alive : IsAlive memory (AddressOf p)) where
    one_alive : (o : ObjectId) → any_dead memory (o ∷ []) ≡ false → is_dead memory o ≡ false
    one_alive o e = at (is_dead memory o) refl e
      where
        at : (b : Bool) → is_dead memory o ≡ b → (b || false) ≡ false → is_dead memory o ≡ false
        at true is e = absurd (cc)
        at false is e = is

    place_there : PlaceIs m w p → IsWithin memory p
    place_there (PlaceIs.on_stack home at) = record {
      alive = subst (IsAliveAt memory) (sym home) tt;
      inside = subst (λ h. p.first + cell_count p.shape ≤ length (home_cells memory h)) (sym home) (part_inside w.slots p at memory.stack typed.stack);
    }
    place_there (PlaceIs.inside o class home there at) =
        let live : is_dead memory o ≡ false = one_alive o (subst (λ h. any_dead memory (home_references h) ≡ false) home alive) in
        record {
          alive = subst (IsAliveAt memory) (sym home) live;
          inside = subst (λ h. p.first + cell_count p.shape ≤ length (home_cells memory h)) (sym home)
              (part_inside (fields_of_class m w class) p at (object_at memory o).cells ((object_is m w memory typed o class there).cells live));
        }

    read_strongly : PlaceIs m w p → has_no_storage p.shape ≡ true → IsReadStrongly memory p
    read_strongly at bare = record { within = place_there at; strongly = by (place_cells m w memory typed p at) }
      where
        by : AllZip (CellIs m w) (cell_shapes p.shape) (cells_at memory p) ⊎ (cells_at memory p ≡ []) → Each KeepsStrongly (cells_at memory p)
        by (inl h) = cells_strong (cell_shapes p.shape) (cells_at memory p) h (all_strong p.shape bare)
        by (inr none) = subst (Each KeepsStrongly) (sym none) tt

-- ---- the row that loads

abbrev loads_value : RowEffect → Bool
loads_value row.LoadsValue = true
loads_value _ = false

module _ (m : Module) (i : Inst) (loading : effect_of i.op ≡ row.LoadsValue) where
  record LoadsOf (ins : List Form) : Type 0 where
    shape : Shape
    is : ins ≡ OfPlace shape ∷ []
    bare : has_no_storage shape ≡ true

  other_row : (r : RowEffect) → effect_of i.op ≡ r → loads_value r ≡ false → ⊥
  other_row r is none = false≢true (sym none ∙ ap loads_value (sym is ∙ loading))

  loads_of : (s : Shape) → has_no_storage s ≡ true → LoadsOf (OfPlace s ∷ [])
  loads_of s bare = record { shape = s; is = refl; bare = bare }

  load_by_lowered : {ins outs : List Form} → RowForms m i ins outs → LoadsOf ins
  load_by_lowered (lowered.looks form is) = absurd (other_row _ is refl)
  load_by_lowered (lowered.literal n width is number residue) = absurd (other_row _ is refl)
  load_by_lowered (lowered.function g is function) = absurd (other_row _ is refl)
  load_by_lowered (lowered.computes b is named) = absurd (other_row _ is refl)
  load_by_lowered (lowered.traps text is told) = absurd (other_row _ is refl)
  load_by_lowered (lowered.object class is declared) = absurd (other_row _ is refl)
  load_by_lowered (lowered.slot how s is shape) = absurd (other_row _ is refl)
  load_by_lowered (lowered.removes s is) = absurd (other_row _ is refl)
  load_by_lowered (lowered.upcast class above is below) = absurd (other_row _ is refl)
  load_by_lowered (lowered.retains s is bare) = absurd (other_row _ is refl)
  load_by_lowered (lowered.drops s is bare) = absurd (other_row _ is refl)
  load_by_lowered (lowered.loads s is done bare) = loads_of s bare
  load_by_lowered (lowered.stores s is done bare) = absurd (other_row _ is refl)
  load_by_lowered (lowered.loads_name how s o is named done _) = absurd (other_row _ is refl)
  load_by_lowered (lowered.stores_name how s o is named done write) = absurd (other_row _ is refl)
  load_by_lowered (lowered.destroys_name how s is named done) = absurd (other_row _ is refl)
  load_by_lowered (lowered.groups s ss is group) = absurd (other_row _ is refl)
  load_by_lowered (lowered.chooses_plain s n c is of_enum at there no_payload) = absurd (other_row _ is refl)
  load_by_lowered (lowered.chooses_full s payload n c is of_enum at there has) = absurd (other_row _ is refl)
  load_by_lowered (lowered.member s part n is number there) = absurd (other_row _ is refl)
  load_by_lowered (lowered.member_address s part n is number there) = absurd (other_row _ is refl)
  load_by_lowered (lowered.field_address class named s n is member owner number there) = absurd (other_row _ is refl)
  load_by_lowered (lowered.calls g callee is there bodied) = absurd (other_row _ is refl)
  load_by_lowered (lowered.calls_out g callee widths is there bodiless) = absurd (other_row _ is refl)

  load_by_row : {ins outs : List Form} → OwnedRowForms m i ins outs → LoadsOf ins
  load_by_row (owned.also_lowered ins outs forms) = load_by_lowered forms
  load_by_row (owned.gives s is bare) = absurd (other_row _ is refl)
  load_by_row (owned.copies s is bare) = absurd (other_row _ is refl)
  load_by_row (owned.loads s o is done _ bare) = loads_of s bare
  load_by_row (owned.stores s o is done write bare) = absurd (other_row _ is refl)
  load_by_row (owned.destroys s is done bare) = absurd (other_row _ is refl)
  load_by_row (owned.members s ss is group) = absurd (other_row _ is refl)

  loaded_strongly : (w : World) (memory : Memory) (ins outs : List Form) (xs : List Datum) (p : Place) → MemoryIs m w memory → OwnedRowForms m i ins outs
      → AllZip (DatumIs m w) ins xs → Each (IsAlive memory) xs → xs ≡ AddressOf p ∷ [] → IsReadStrongly memory p
  loaded_strongly w memory ins outs xs p typed forms typed_as alive only =
      let at = load_by_row forms in
      let is : DatumIs m w (OfPlace at.shape) (AddressOf p) =
      (subst (λ fs. AllZip (DatumIs m w) fs (AddressOf p ∷ [])) at.is (subst (AllZip (DatumIs m w) ins) only typed_as)).0 in
      let place = read_place m w is at.shape refl in
      let same : place.0 ≡ p = let e = place.1 in cc in
      let there : PlaceIs m w p = subst (PlaceIs m w) same place.3 in
      let shape : at.shape ≡ p.shape = sym place.2 ∙ ap (λ (q : Place). q.shape) same in
      read_strongly m w memory typed p (subst (Each (IsAlive memory)) only alive).0 there (subst (λ s. has_no_storage s ≡ true) shape at.bare)

pub load_typed_strongly : LoadTypedStrongly
load_typed_strongly m w memory i ins outs xs typed forms typed_as alive p loading only = loaded_strongly m i loading w memory ins outs xs p typed forms typed_as alive only
