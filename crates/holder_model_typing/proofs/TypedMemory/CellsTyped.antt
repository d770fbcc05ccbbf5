-- The cells of a value that suits a shape are those of the shape, and the value that such cells keep suits it.
use Rattle.std.proofs.Common.{◌≡◌, ℕ, zero, suc, List, [], ◌∷◌, Option, Some, None, true, length, take, drop, refl, sym, ap, ◌∙◌, subst}
use Rattle.std.specs.Prelude.{option_map}
use Rattle.std.specs.List.{AllByRecursion, AllZip}
use Rattle.std.proofs.lemmas.Bool.{and_from, and_parts, false≢true}
use Rattle.std.proofs.lemmas.List.{drop_at, take_at}
use Rattle.std.proofs.lemmas.Option.{none-some, same_Some}
use Rattle.std.proofs.lemmas.Slice.Zip.{AllZip-long}
use Rattle.sil_ast.specs.declared.module.Module.{Module}
use Rattle.holder_model.specs.holder_model_values.RunValues.Cells.{Cell, InCells, cell_count, cells_each, cells_layer, in_cells, kept, kept_each, kept_first}
use Rattle.holder_model.specs.holder_model_values.RunValues.inner.Fits.{are_members, fit_each}
use Rattle.holder_model.specs.holder_model_values.RunValues.Leaves.{with_more}
use Rattle.holder_model.specs.holder_model_values.RunValues.Shapes.{Shape, Shapes, NoMember, Member, Integer, Reference, Struct, Tuple, Enum, Stored, Unknown, each_by_layers, listed}
use Rattle.holder_model.specs.holder_model_values.RunValues.Values.{Value, Group, grouped, members_of}
use Rattle.holder_model.specs.holder_model_values.RunValues.Values as value
use Rattle.holder_model.specs.holder_model_values.ValueParts.inner.Suits.{suits, suits_layer}
use Rattle.holder_model.proofs.holder_model_values.ValueParts.Inductions.{InParts, by_parts}
use Rattle.holder_model.proofs.holder_model_values.ValueParts.Members.{listed_again}
use Rattle.holder_model_typing.specs.TypedMemory.inner.Worlds.{CellIs, Suits, World, cell_shapes, each_cell_shapes, names}
use Rattle.holder_model_typing.proofs.TypedMemory.CellShapes.{shape_count}
use Rattle.holder_model_typing.proofs.TypedMemory.Zips.{zip_append, zip_parted}

abbrev told : Shapes → List InCells
told ss = each_by_layers cells_layer ss

more_parts : (o : Option Value) (p : Option (List Value)) (vs : List Value) → with_more o p ≡ Some vs
    → (x : Value) × (xs : List Value) × (o ≡ Some x) × (p ≡ Some xs) × (vs ≡ x ∷ xs)
more_parts None p vs e = absurd (none-some vs e)
more_parts (Some x) None vs e = absurd (none-some vs e)
more_parts (Some x) (Some xs) vs e = (x, xs, refl, refl, sym (same_Some (x ∷ xs) vs e))

group_parts : (o : Option (List Value)) (x : Value) → option_map grouped o ≡ Some x → (vs : List Value) × (o ≡ Some vs) × (x ≡ grouped vs)
group_parts None x e = absurd (none-some x e)
group_parts (Some vs) x e = (vs, refl, sym (same_Some (grouped vs) x e))

module _ (m : Module) (w : World) where
  abbrev Along : List Shape → List Cell → Type 0
  Along ss cells = AllZip (CellIs m w) ss cells

  -- the members suit one by one
  abbrev FitEach : Shapes → List Value → Type 0
  FitEach ss vs = fit_each (each_by_layers (suits_layer (names m w)) ss) vs ≡ true

  -- from values to cells

  abbrev FillsTyped : Shape → Type 0
  FillsTyped s = (x : Value) → Suits m w s x → Along (cell_shapes s) ((in_cells s).cells x)

  each_filled : (ss : Shapes) → AllByRecursion FillsTyped (listed ss) → (vs : List Value) → FitEach ss vs → Along (each_cell_shapes ss) (cells_each (told ss) vs)
  each_filled NoMember hs [] h = tt
  each_filled NoMember hs (v ∷ vs) h = absurd (false≢true h)
  each_filled (Member s ss) hs [] h = absurd (false≢true h)
  each_filled (Member s ss) hs (v ∷ vs) h =
      let parts = and_parts (suits (names m w) s v) (fit_each (each_by_layers (suits_layer (names m w)) ss) vs) h in
      zip_append (CellIs m w) (cell_shapes s) (each_cell_shapes ss) ((in_cells s).cells v) (cells_each (told ss) vs) (hs.0 v parts.0) (each_filled ss hs.1 vs parts.1)

  group_filled : (s : Shape) (ss : Shapes) → AllByRecursion FillsTyped (listed (Member s ss)) → (v : Value) → Suits m w (Tuple (Member s ss)) v
      → Along (each_cell_shapes (Member s ss)) ((in_cells (Tuple (Member s ss))).cells v)
  group_filled s ss hs (Group vs) h = each_filled (Member s ss) hs (value.listed vs) h
  group_filled s ss hs v h = absurd (false≢true h)

  shape_filled : (s : Shape) → InParts FillsTyped s → FillsTyped s
  shape_filled (Integer width) hs v h = (CellIs.keeps v h, tt)
  shape_filled (Reference class) hs v h = (CellIs.keeps v h, tt)
  shape_filled (Struct name NoMember) hs v h = (CellIs.keeps v h, tt)
  shape_filled (Struct name (Member s ss)) hs v h = group_filled s ss hs v h
  shape_filled (Tuple NoMember) hs v h = (CellIs.keeps v h, tt)
  shape_filled (Tuple (Member s ss)) hs v h = group_filled s ss hs v h
  shape_filled (Enum name cases) hs v h = (CellIs.keeps v h, tt)
  shape_filled (Stored storage inner) hs v h = (CellIs.keeps v h, tt)
  shape_filled Unknown hs v h = (CellIs.keeps v h, tt)

  pub cells_typed : (s : Shape) (x : Value) → Suits m w s x → Along (cell_shapes s) ((in_cells s).cells x)
  cells_typed = by_parts FillsTyped shape_filled

  -- and back

  abbrev KeepsTyped : Shape → Type 0
  KeepsTyped s = (cells : List Cell) (x : Value) → Along (cell_shapes s) cells → (in_cells s).value cells ≡ Some x → Suits m w s x

  cell_read : (s : Shape) (c : Cell) (x : Value) → CellIs m w s c → kept c ≡ Some x → Suits m w s x
  cell_read s _ x CellIs.gone e = absurd (none-some x e)
  cell_read s _ x CellIs.empty e = absurd (none-some x e)
  cell_read s _ x (CellIs.keeps y h) e = subst (Suits m w s) (same_Some y x e) h

  first_read : (s : Shape) (cells : List Cell) (x : Value) → Along (s ∷ []) cells → kept_first cells ≡ Some x → Suits m w s x
  first_read s [] x h e = absurd h
  first_read s (c ∷ cells) x h e = cell_read s c x h.0 e

  each_read : (ss : Shapes) → AllByRecursion KeepsTyped (listed ss) → (cells : List Cell) (vs : List Value) → Along (each_cell_shapes ss) cells → kept_each (told ss) cells ≡ Some vs
      → FitEach ss vs
  each_read NoMember hs cells vs h e = ap (fit_each []) (sym (same_Some [] vs e))
  each_read (Member s ss) hs cells vs h e =
      let at = zip_parted (CellIs m w) (cell_shapes s) (each_cell_shapes ss) cells h in
      let size : length at.front ≡ cell_count s = AllZip-long (CellIs m w) (cell_shapes s) at.front at.fronts ∙ shape_count s in
      let front : take (cell_count s) cells ≡ at.front = ap (take (cell_count s)) at.is ∙ take_at at.front at.back (cell_count s) size in
      let back : drop (cell_count s) cells ≡ at.back = ap (drop (cell_count s)) at.is ∙ drop_at at.front at.back (cell_count s) size in
      let parts = more_parts ((in_cells s).value (take (cell_count s) cells)) (kept_each (told ss) (drop (cell_count s) cells)) vs e in
      ap (fit_each (each_by_layers (suits_layer (names m w)) (Member s ss))) parts.4
      ∙ and_from (suits (names m w) s parts.0) (fit_each (each_by_layers (suits_layer (names m w)) ss) parts.1) (hs.0 at.front parts.0 at.fronts (sym (ap (in_cells s).value front) ∙ parts.2))
      (each_read ss hs.1 at.back parts.1 at.backs (sym (ap (kept_each (told ss)) back) ∙ parts.3))

  group_read : (s : Shape) (ss : Shapes) → AllByRecursion KeepsTyped (listed (Member s ss)) → (cells : List Cell) (x : Value) → Along (each_cell_shapes (Member s ss)) cells
      → option_map grouped (kept_each (told (Member s ss)) cells) ≡ Some x → Suits m w (Tuple (Member s ss)) x
  group_read s ss hs cells x h e =
      let parts = group_parts (kept_each (told (Member s ss)) cells) x e in
      ap (λ y. are_members (each_by_layers (suits_layer (names m w)) (Member s ss)) (members_of y)) parts.2
      ∙ ap (fit_each (each_by_layers (suits_layer (names m w)) (Member s ss))) (listed_again parts.0)
      ∙ each_read (Member s ss) hs cells parts.0 h parts.1

  shape_read : (s : Shape) → InParts KeepsTyped s → KeepsTyped s
  shape_read (Integer width) hs cells x h e = first_read (Integer width) cells x h e
  shape_read (Reference class) hs cells x h e = first_read (Reference class) cells x h e
  shape_read (Struct name NoMember) hs cells x h e = first_read (Struct name NoMember) cells x h e
  shape_read (Struct name (Member s ss)) hs cells x h e = group_read s ss hs cells x h e
  shape_read (Tuple NoMember) hs cells x h e = first_read (Tuple NoMember) cells x h e
  shape_read (Tuple (Member s ss)) hs cells x h e = group_read s ss hs cells x h e
  shape_read (Enum name cases) hs cells x h e = first_read (Enum name cases) cells x h e
  shape_read (Stored storage inner) hs cells x h e = first_read (Stored storage inner) cells x h e
  shape_read Unknown hs cells x h e = first_read Unknown cells x h e

  pub values_typed : (s : Shape) (cells : List Cell) (x : Value) → Along (cell_shapes s) cells → (in_cells s).value cells ≡ Some x → Suits m w s x
  values_typed = by_parts KeepsTyped shape_read

-- no cells are no value

abbrev pub no_cells : List Cell
no_cells = []

abbrev KeepsNothing : Shape → Type 0
KeepsNothing s = (in_cells s).value [] ≡ None

first_nothing : (s : Shape) (ss : Shapes) → KeepsNothing s → kept_each (told (Member s ss)) [] ≡ None
first_nothing s ss h =
    ap (λ cs. with_more ((in_cells s).value cs) (kept_each (told ss) (drop (cell_count s) []))) (none_taken (cell_count s))
    ∙ ap (λ x. with_more x (kept_each (told ss) (drop (cell_count s) []))) h
  where
    none_taken : (n : ℕ) → take n no_cells ≡ []
    none_taken zero = refl
    none_taken (suc n) = refl

shape_nothing : (s : Shape) → InParts KeepsNothing s → KeepsNothing s
shape_nothing (Integer width) hs = refl
shape_nothing (Reference class) hs = refl
shape_nothing (Struct name NoMember) hs = refl
shape_nothing (Struct name (Member s ss)) hs = ap (option_map grouped) (first_nothing s ss hs.0)
shape_nothing (Tuple NoMember) hs = refl
shape_nothing (Tuple (Member s ss)) hs = ap (option_map grouped) (first_nothing s ss hs.0)
shape_nothing (Enum name cases) hs = refl
shape_nothing (Stored storage inner) hs = refl
shape_nothing Unknown hs = refl

pub nothing_is_none : (s : Shape) → (in_cells s).value [] ≡ None
nothing_is_none = by_parts KeepsNothing shape_nothing
