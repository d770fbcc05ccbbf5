-- Cells of typed memory by their shapes: which keep strongly what they keep, and which keep nothing.
use Rattle.std.proofs.Common.{◌≡◌, inl, inr, ℕ, ◌+◌, List, [], ◌∷◌, ◌++◌, length, refl, sym, ap, ◌∙◌, subst, Bool, true, false, cond, ◌||◌, None, arith}
use Rattle.std.specs.Prelude.{unwrap_or}
use Rattle.std.specs.List.{AllByRecursion, AllZip, list_all}
use Rattle.std.proofs.lemmas.Bool.{and_parts, false≢true}
use Rattle.numbered_form.specs.Lists.{Each}
use Rattle.sil_ast.specs.declared.decl.Storage.{Storage}
use Rattle.sil_ast.specs.declared.decl.Storage.TheVariants as storage
use Rattle.sil_ast.specs.declared.module.Module.{Module}
use Rattle.sil_ast.specs.declared.place.ObjectId.{ObjectId}
use Rattle.holder_model_values.specs.RunValues.Cells.{Cell, Empty, Gone, Keeps}
use Rattle.holder_model_values.specs.RunValues.Cells as cells
use Rattle.holder_model_values.specs.RunValues.Places.{is_empty_cell}
use Rattle.holder_model_values.specs.RunValues.Shapes.{Shape, Shapes, Integer, Reference, Struct, Tuple, Enum, Stored, Unknown, NoMember, Member, each_by_layers, listed, storage_in}
use Rattle.holder_model_values.specs.RunValues.Trivial.{is_trivial, itself, trivial_layer}
use Rattle.holder_model_values.specs.RunValues.Values.{Value, references_of}
use Rattle.holder_model_values.specs.ValueParts.inner.Storages.{holds_no_storage, no_storage_layer}
use Rattle.holder_model_values.proofs.ValueParts.Inductions.{InParts, by_parts}
use Rattle.holder_model_values.proofs.ValueParts.Cells.{cells_back, cells_length}
use Rattle.holder_model_values.proofs.ValueParts.Suiting.{suits_fits}
use Rattle.sil_verifier_runs.specs.holder_model.Holders.{in_cell, in_cells, of_references, same_storage}
use Rattle.sil_verifier_runs.specs.holder_model_laws.HolderLaws.inner.Counts.Keeping.{KeepsStrongly}
use Rattle.sil_verifier_runs.proofs.holder_model_laws.HolderLaws.Counts.Sums.{total_cons}
use Rattle.sil_verifier_runs.proofs.holder_model_laws.HolderLaws.Counts.Values.{read_counted}
use Rattle.sil_verifier_runs.specs.holder_model_laws.StoredCounts.inner.Rows.{KeepNone}
use Rattle.ownership_lowering_laws.specs.holder_model_typing.TypedMemory.inner.Worlds.{CellIs, Suits, World, cell_shapes, each_cell_shapes, names}
use Rattle.ownership_lowering_laws.proofs.holder_model_typing.TypedMemory.CellsTyped.{cells_typed}
use Rattle.ownership_lowering_laws.proofs.holder_model_typing.TypedMemory.Homes.{PlaceCells}
use Rattle.ownership_lowering_laws.proofs.holder_model_typing.TypedMemory.Trivials.{no_references}

each_both : {A : Type 0} (P : A → Type 0) (xs ys : List A) → Each P xs → Each P ys → Each P (xs ++ ys)
each_both P [] ys h k = k
each_both P (x ∷ xs) ys h k = (h.0, each_both P xs ys h.1 k)

-- ---- shapes without storage keep all strongly

abbrev IsStrong : Shape → Type 0
IsStrong s = storage_in s ≡ None

abbrev AreStrong : Shape → Type 0
AreStrong s = holds_no_storage s ≡ true → Each IsStrong (cell_shapes s)

each_strong : (ss : Shapes) → AllByRecursion AreStrong (listed ss) → list_all itself (each_by_layers no_storage_layer ss) ≡ true → Each IsStrong (each_cell_shapes ss)
each_strong NoMember hs t = tt
each_strong (Member s ss) hs t =
    let parts = and_parts (holds_no_storage s) (list_all itself (each_by_layers no_storage_layer ss)) t in
    each_both IsStrong (cell_shapes s) (each_cell_shapes ss) (hs.0 parts.0) (each_strong ss hs.1 parts.1)

shape_strong : (s : Shape) → InParts AreStrong s → AreStrong s
shape_strong (Integer width) hs t = (refl, tt)
shape_strong (Reference class) hs t = (refl, tt)
shape_strong (Struct name NoMember) hs t = (refl, tt)
shape_strong (Struct name (Member s ss)) hs t = each_strong (Member s ss) hs t
shape_strong (Tuple NoMember) hs t = (refl, tt)
shape_strong (Tuple (Member s ss)) hs t = each_strong (Member s ss) hs t
shape_strong (Enum name cases) hs t = (refl, tt)
shape_strong (Stored s inner) hs t = absurd (false≢true t)
shape_strong Unknown hs t = (refl, tt)

strong_cells : (s : Shape) → AreStrong s
strong_cells = by_parts AreStrong shape_strong

-- ---- cells of trivial shapes are trivial

abbrev pub IsTrivial : Shape → Type 0
IsTrivial s = is_trivial s ≡ true

abbrev pub AreTrivial : Shape → Type 0
AreTrivial s = is_trivial s ≡ true → Each IsTrivial (cell_shapes s)

each_trivial : (ss : Shapes) → AllByRecursion AreTrivial (listed ss) → list_all itself (each_by_layers trivial_layer ss) ≡ true → Each IsTrivial (each_cell_shapes ss)
each_trivial NoMember hs t = tt
each_trivial (Member s ss) hs t =
    let parts = and_parts (is_trivial s) (list_all itself (each_by_layers trivial_layer ss)) t in
    each_both IsTrivial (cell_shapes s) (each_cell_shapes ss) (hs.0 parts.0) (each_trivial ss hs.1 parts.1)

shape_trivial : (s : Shape) → InParts AreTrivial s → AreTrivial s
shape_trivial (Integer width) hs t = (t, tt)
shape_trivial (Reference class) hs t = (t, tt)
shape_trivial (Struct name NoMember) hs t = (t, tt)
shape_trivial (Struct name (Member s ss)) hs t = each_trivial (Member s ss) hs t
shape_trivial (Tuple NoMember) hs t = (t, tt)
shape_trivial (Tuple (Member s ss)) hs t = each_trivial (Member s ss) hs t
shape_trivial (Enum name cases) hs t = (t, tt)
shape_trivial (Stored s inner) hs t = (t, tt)
shape_trivial Unknown hs t = (t, tt)

pub trivial_cells : (s : Shape) → AreTrivial s
trivial_cells = by_parts AreTrivial shape_trivial

-- ---- empty cells keep nothing

none_cons : (weight : ObjectId → ℕ) (how : Storage) (c : Cell) (kept : List Cell) → in_cell weight how c ≡ 0 → in_cells weight how kept ≡ 0 → in_cells weight how (c ∷ kept) ≡ 0
none_cons weight how c kept first rest =
    let whole : in_cells weight how (c ∷ kept) ≡ in_cell weight how c + in_cells weight how kept = total_cons (in_cell weight how) c kept in
    omega (arith, whole, first, rest)

pub empty_none : (how : Storage) (kept : List Cell) → list_all is_empty_cell kept ≡ true → KeepNone how kept
empty_none how [] e weight = refl
empty_none how (c ∷ kept) e weight =
    let parts = and_parts (is_empty_cell c) (list_all is_empty_cell kept) e in
    none_cons weight how c kept (one c parts.0) (empty_none how kept parts.1 weight)
  where
    one : (c : Cell) → is_empty_cell c ≡ true → in_cell weight how c ≡ 0
    one Gone e = refl
    one Empty e = refl
    one (Keeps s x) e = cc

module _ (m : Module) (w : World) where
  -- ---- what cells keep

  strong_cell : (s : Shape) (c : Cell) → IsStrong s → CellIs m w s c → KeepsStrongly c
  strong_cell s _ is CellIs.gone = tt
  strong_cell s _ is CellIs.empty = tt
  strong_cell s _ is (CellIs.keeps x good) = ap (λ o. unwrap_or o storage.Strong) is

  strong_along : (ss : List Shape) (kept : List Cell) → Each IsStrong ss → AllZip (CellIs m w) ss kept → Each KeepsStrongly kept
  strong_along [] [] is h = tt
  strong_along [] (c ∷ kept) is h = absurd h
  strong_along (s ∷ ss) [] is h = absurd h
  strong_along (s ∷ ss) (c ∷ kept) is h = (strong_cell s c is.0 h.0, strong_along ss kept is.1 h.1)

  pub kept_strongly : (s : Shape) (kept : List Cell) → holds_no_storage s ≡ true → PlaceCells m w s kept → Each KeepsStrongly kept
  kept_strongly s kept bare (inl h) = strong_along (cell_shapes s) kept (strong_cells s bare) h
  kept_strongly s kept bare (inr e) = subst (Each KeepsStrongly) (sym e) tt

  trivial_cell : (weight : ObjectId → ℕ) (how : Storage) (s : Shape) (c : Cell) → IsTrivial s → CellIs m w s c → in_cell weight how c ≡ 0
  trivial_cell weight how s _ is CellIs.gone = refl
  trivial_cell weight how s _ is CellIs.empty = refl
  trivial_cell weight how s _ is (CellIs.keeps x good) =
      ap (λ os. of_references weight (cond (same_storage how (unwrap_or (storage_in s) storage.Strong)) os [])) (no_references (names m w) s x good is)
      ∙ at (same_storage how (unwrap_or (storage_in s) storage.Strong))
    where
      at : (b : Bool) → of_references weight (cond b [] []) ≡ 0
      at true = refl
      at false = refl

  trivial_along : (how : Storage) (ss : List Shape) (kept : List Cell) → Each IsTrivial ss → AllZip (CellIs m w) ss kept → KeepNone how kept
  trivial_along how [] [] is h weight = refl
  trivial_along how [] (c ∷ kept) is h weight = absurd h
  trivial_along how (s ∷ ss) [] is h weight = absurd h
  trivial_along how (s ∷ ss) (c ∷ kept) is h weight = none_cons weight how c kept (trivial_cell weight how s c is.0 h.0) (trivial_along how ss kept is.1 h.1 weight)

  pub trivial_none : (how : Storage) (s : Shape) (kept : List Cell) → is_trivial s ≡ true → PlaceCells m w s kept → KeepNone how kept
  trivial_none how s kept t (inl h) weight = trivial_along how (cell_shapes s) kept (trivial_cells s t) h weight
  trivial_none how s kept t (inr e) weight = ap (in_cells weight how) e

  -- a place that counts as empty keeps nothing
  pub empty_place : (how : Storage) (s : Shape) (kept : List Cell) → (is_trivial s || list_all is_empty_cell kept) ≡ true → PlaceCells m w s kept → KeepNone how kept
  empty_place how s kept e h = at (is_trivial s) (list_all is_empty_cell kept) refl refl e
    where
      at : (a b : Bool) → is_trivial s ≡ a → list_all is_empty_cell kept ≡ b → (a || b) ≡ true → KeepNone how kept
      at true b t e h' = trivial_none how s kept t h
      at false true t e h' = empty_none how kept e
      at false false t e h' = absurd (false≢true h')

  -- weak and unowned storage keeps nothing strongly
  pub stored_none : (how : Storage) → (how ≡ storage.Strong → ⊥) → (s : Shape) (kept : List Cell) → PlaceCells m w (Stored how s) kept → KeepNone storage.Strong kept
  stored_none how other s kept (inr e) weight = ap (in_cells weight storage.Strong) e
  stored_none how other s [] (inl h) weight = refl
  stored_none how other s (c ∷ d ∷ kept) (inl h) weight = absurd h.1
  stored_none how other s (c ∷ []) (inl h) weight = none_cons weight storage.Strong c [] (one c h.0) refl
    where
      kept_so : (how : Storage) → (how ≡ storage.Strong → ⊥) → (x : Value) → in_cell weight storage.Strong (Keeps how x) ≡ 0
      kept_so storage.Strong other x = absurd (other refl)
      kept_so storage.Weak other x = refl
      kept_so storage.Unowned other x = refl

      one : (c : Cell) → CellIs m w (Stored how s) c → in_cell weight storage.Strong c ≡ 0
      one _ CellIs.gone = refl
      one _ CellIs.empty = refl
      one _ (CellIs.keeps x good) = kept_so how other x

  -- ---- cells of values

  pub written_length : (s : Shape) (x : Value) → Suits m w s x → length ((cells.in_cells s).cells x) ≡ cells.cell_count s
  written_length s x good = cells_length s x (suits_fits (names m w) s x good)

  pub written_strongly : (s : Shape) (x : Value) → holds_no_storage s ≡ true → Suits m w s x → (weight : ObjectId → ℕ)
      → of_references weight (references_of x) ≡ in_cells weight storage.Strong ((cells.in_cells s).cells x)
  written_strongly s x bare good weight =
      read_counted weight s ((cells.in_cells s).cells x) x (strong_along (cell_shapes s) ((cells.in_cells s).cells x) (strong_cells s bare) (cells_typed m w s x good))
      (written_length s x good) (cells_back s x (suits_fits (names m w) s x good))

  pub written_weakly : (how : Storage) → (how ≡ storage.Strong → ⊥) → (s : Shape) (x : Value) → KeepNone storage.Strong ((cells.in_cells (Stored how s)).cells x)
  written_weakly how other s x weight = none_cons weight storage.Strong (Keeps how x) [] (kept_so how other) refl
    where
      kept_so : (how : Storage) → (how ≡ storage.Strong → ⊥) → in_cell weight storage.Strong (Keeps how x) ≡ 0
      kept_so storage.Strong other = absurd (other refl)
      kept_so storage.Weak other = refl
      kept_so storage.Unowned other = refl
