-- What the cells of a value keep strongly, in weak storage and in unowned storage.
use Rattle.std.proofs.Common.{◌≡◌, ◌++◌, ℕ, zero, suc, List, [], ◌∷◌, Bool, true, false, refl, ap, ◌∙◌}
use Rattle.std.specs.Prelude.{replicate, unwrap_or}
use Rattle.std.specs.List.{AllByRecursion, flat_map, list_all}
use Rattle.std.proofs.lemmas.Bool.{and_parts, false≢true}
use Rattle.std.proofs.lemmas.List.{append-nil}
use Rattle.std.proofs.lemmas.List.Concat.{flat_map-append}
use Rattle.count_machine_model.specs.holder_model.Holders.{kept_references, same_storage}
use Rattle.holder_model_values.specs.RunValues.Cells as cells
use Rattle.holder_model_values.specs.RunValues.Cells.{Cell, InCells, cells_each, cells_layer, in_cells}
use Rattle.holder_model_values.specs.RunValues.inner.Fits.{are_members, fit_each, fits, fits_layer}
use Rattle.holder_model_values.specs.RunValues.Shapes.{Shape, Shapes, NoMember, Member, each_by_layers, listed}
use Rattle.holder_model_values.specs.RunValues.Shapes.{Integer, Reference, Struct, Tuple, Enum, Stored, Unknown}
use Rattle.holder_model_values.specs.RunValues.Trivial.{itself}
use Rattle.holder_model_values.specs.RunValues.Values as value
use Rattle.holder_model_values.specs.RunValues.Values.{Value, Group, Values, NoValue, More, members_of, references_in_each, references_of}
use Rattle.sil_ast.specs.declared.decl.Storage.{Storage}
use Rattle.sil_ast.specs.declared.decl.Storage.TheVariants as storage
use Rattle.sil_ast.specs.declared.place.ObjectId.{ObjectId}
use Rattle.holder_model_values.proofs.ValueParts.Inductions.{InParts, by_parts}
use Rattle.holder_model_values.specs.ValueParts.inner.Storages.{holds_no_storage, no_storage_layer}

abbrev pub kept_among : Storage → List Cell → List ObjectId
kept_among w cs = flat_map (kept_references w) cs

-- empty cells keep nothing
pub empty_kept : (w : Storage) (n : ℕ) → kept_among w (replicate n cells.Empty) ≡ []
empty_kept w zero = refl
empty_kept w (suc n) = empty_kept w n

pub kept-append : (w : Storage) (cs ds : List Cell) → kept_among w (cs ++ ds) ≡ kept_among w cs ++ kept_among w ds
kept-append w = flat_map-append (kept_references w)

abbrev told : Shapes → List InCells
told ss = each_by_layers cells_layer ss

abbrev hold_none : Shapes → Bool
hold_none ss = list_all itself (each_by_layers no_storage_layer ss)

-- where no storage is in the shape: nothing weakly or unowned

module _ (w : Storage) (other : same_storage w storage.Strong ≡ false) where
  abbrev KeepsNone : Shape → Type 0
  KeepsNone s = holds_no_storage s ≡ true → (v : Value) → kept_among w ((in_cells s).cells v) ≡ []

  one_keeps_none : (v : Value) → kept_among w (cells.Keeps storage.Strong v ∷ []) ≡ []
  one_keeps_none v = rw other

  each_keeps_none : (ss : Shapes) → AllByRecursion KeepsNone (listed ss) → hold_none ss ≡ true → (vs : List Value) → kept_among w (cells_each (told ss) vs) ≡ []
  each_keeps_none NoMember hs h vs = refl
  each_keeps_none (Member s ss) hs h [] = refl
  each_keeps_none (Member s ss) hs h (v ∷ vs) =
      let parts = and_parts (holds_no_storage s) (hold_none ss) h in
      kept-append w ((in_cells s).cells v) (cells_each (told ss) vs) ∙ ap (λ os. os ++ kept_among w (cells_each (told ss) vs)) (hs.0 parts.0 v)
      ∙ each_keeps_none ss hs.1 parts.1 vs

  group_keeps_none : (ss : Shapes) → AllByRecursion KeepsNone (listed ss) → hold_none ss ≡ true → (v : Value) → kept_among w ((in_cells (Tuple ss)).cells v) ≡ []
  group_keeps_none NoMember hs h v = one_keeps_none v
  group_keeps_none (Member s ss) hs h v = each_keeps_none (Member s ss) hs h (unwrap_or (members_of v) [])

  shape_keeps_none : (s : Shape) → InParts KeepsNone s → KeepsNone s
  shape_keeps_none (Integer width) hs h v = one_keeps_none v
  shape_keeps_none (Reference class) hs h v = one_keeps_none v
  shape_keeps_none (Struct name fields) hs h v = group_keeps_none fields hs h v
  shape_keeps_none (Tuple elements) hs h v = group_keeps_none elements hs h v
  shape_keeps_none (Enum name cases) hs h v = one_keeps_none v
  shape_keeps_none (Stored s inner) hs h v = absurd (false≢true h)
  shape_keeps_none Unknown hs h v = one_keeps_none v

  pub keeps_none : (s : Shape) → KeepsNone s
  keeps_none = by_parts KeepsNone shape_keeps_none

-- and strongly whatever the value refers to

abbrev KeepsAll : Shape → Type 0
KeepsAll s = holds_no_storage s ≡ true → (v : Value) → fits s v ≡ true → kept_among storage.Strong ((in_cells s).cells v) ≡ references_of v

one_keeps_all : (v : Value) → kept_among storage.Strong (cells.Keeps storage.Strong v ∷ []) ≡ references_of v
one_keeps_all v = append-nil (references_of v)

each_keeps_all : (ss : Shapes) → AllByRecursion KeepsAll (listed ss) → hold_none ss ≡ true → (vs : Values) → fit_each (each_by_layers fits_layer ss) (value.listed vs) ≡ true
    → kept_among storage.Strong (cells_each (told ss) (value.listed vs)) ≡ references_in_each vs
each_keeps_all NoMember hs h NoValue f = refl
each_keeps_all NoMember hs h (More v vs) f = absurd (false≢true f)
each_keeps_all (Member s ss) hs h NoValue f = absurd (false≢true f)
each_keeps_all (Member s ss) hs h (More v vs) f =
    let parts = and_parts (holds_no_storage s) (hold_none ss) h in
    let fit = and_parts (fits s v) (fit_each (each_by_layers fits_layer ss) (value.listed vs)) f in
    kept-append storage.Strong ((in_cells s).cells v) (cells_each (told ss) (value.listed vs))
    ∙ ap (λ os. os ++ kept_among storage.Strong (cells_each (told ss) (value.listed vs))) (hs.0 parts.0 v fit.0)
    ∙ ap (λ os. references_of v ++ os) (each_keeps_all ss hs.1 parts.1 vs fit.1)

group_keeps_all : (ss : Shapes) → AllByRecursion KeepsAll (listed ss) → hold_none ss ≡ true → (v : Value) → are_members (each_by_layers fits_layer ss) (members_of v) ≡ true
    → kept_among storage.Strong ((in_cells (Tuple ss)).cells v) ≡ references_of v
group_keeps_all NoMember hs h v f = one_keeps_all v
group_keeps_all (Member s ss) hs h (Group vs) f = each_keeps_all (Member s ss) hs h vs f
group_keeps_all (Member s ss) hs h v f = absurd (false≢true f)

shape_keeps_all : (s : Shape) → InParts KeepsAll s → KeepsAll s
shape_keeps_all (Integer width) hs h v f = one_keeps_all v
shape_keeps_all (Reference class) hs h v f = one_keeps_all v
shape_keeps_all (Struct name fields) hs h v f = group_keeps_all fields hs h v f
shape_keeps_all (Tuple elements) hs h v f = group_keeps_all elements hs h v f
shape_keeps_all (Enum name cases) hs h v f = one_keeps_all v
shape_keeps_all (Stored s inner) hs h v f = absurd (false≢true h)
shape_keeps_all Unknown hs h v f = one_keeps_all v

pub keeps_all : (s : Shape) → KeepsAll s
keeps_all = by_parts KeepsAll shape_keeps_all
