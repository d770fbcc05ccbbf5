-- What the cells of a value name, and what the value that cells keep names.
use Rattle.std.proofs.Common.{◌≡◌, List, [], ◌∷◌, Bool, true, false, take, drop, refl, subst, Option, Some, None, cond}
use Rattle.std.specs.Prelude.{option_map}
use Rattle.std.specs.List.{AllByRecursion}
use Rattle.std.proofs.lemmas.Option.{none-some, same_Some}
use Rattle.holder_model.specs.Holders.{kept_references, same_storage}
use Rattle.numbered_form.specs.Lists.{Each}
use Rattle.holder_model.specs.holder_model_values.RunValues.Cells.{Cell, Gone, Empty, InCells, Keeps, cell_count, cells_each, cells_layer, in_cells, kept_each, kept_first}
use Rattle.holder_model.specs.holder_model_values.RunValues.Leaves.{with_more}
use Rattle.holder_model.specs.holder_model_values.RunValues.Shapes.{Shape, Shapes, NoMember, Member, Integer, Reference, Struct, Tuple, Enum, Stored, Unknown, each_by_layers, listed}
use Rattle.holder_model.specs.holder_model_values.RunValues.Values.{Value, Int, Object, Group, Case, Full, Values, NoValue, More, grouped, references_in_each, references_of, values_of}
use Rattle.holder_model.specs.holder_model_values.RunValues.Values as value
use Rattle.sil_ast.specs.declared.decl.Storage.{Storage}
use Rattle.sil_ast.specs.declared.place.ObjectId.{ObjectId}
use Rattle.holder_model.proofs.holder_model_values.ValueParts.Inductions.{InParts, by_parts}
use Rattle.holder_model_laws.specs.HolderLaws.inner.Whole.Whole.{cell_references}
use Rattle.holder_model_laws.proofs.HolderLaws.Whole.Lists.{each_append, each_cut, each_parts}

abbrev told : Shapes → List InCells
told ss = each_by_layers cells_layer ss

module _ (P : ObjectId → Type 0) where
  abbrev pub Names : Cell → Type 0
  Names c = Each P (cell_references c)

  -- ---- cells that are read

  abbrev Reads : Shape → Type 0
  Reads s = (cs : List Cell) (x : Value) → Each Names cs → (in_cells s).value cs ≡ Some x → Each P (references_of x)

  one_reads : (cs : List Cell) (x : Value) → Each Names cs → kept_first cs ≡ Some x → Each P (references_of x)
  one_reads [] x h e = absurd (none-some x e)
  one_reads (Gone ∷ cs) x h e = absurd (none-some x e)
  one_reads (Empty ∷ cs) x h e = absurd (none-some x e)
  one_reads (Keeps how y ∷ cs) x h e = subst (λ z. Each P (references_of z)) (same_Some y x e) h.0

  more_parts : (x : Option Value) (vs : Option (List Value)) (all : List Value) → with_more x vs ≡ Some all
      → (y : Value) × (ys : List Value) × (x ≡ Some y) × (vs ≡ Some ys) × (y ∷ ys ≡ all)
  more_parts None vs all e = absurd (none-some all e)
  more_parts (Some y) None all e = absurd (none-some all e)
  more_parts (Some y) (Some ys) all e = (y, ys, refl, refl, same_Some (y ∷ ys) all e)

  each_reads : (ss : Shapes) → AllByRecursion Reads (listed ss) → (cs : List Cell) (vs : List Value) → Each Names cs
      → kept_each (told ss) cs ≡ Some vs → Each P (references_in_each (values_of vs))
  each_reads NoMember hs cs vs h e = subst (λ ws. Each P (references_in_each (values_of ws))) (same_Some [] vs e) tt
  each_reads (Member s ss) hs cs vs h e =
      let parts = more_parts ((in_cells s).value (take (cell_count s) cs)) (kept_each (told ss) (drop (cell_count s) cs)) vs e in
      let cut = each_cut Names (cell_count s) cs h in
      subst (λ ws. Each P (references_in_each (values_of ws))) parts.4
      (each_append P (references_of parts.0) (references_in_each (values_of parts.1))
      (hs.0 (take (cell_count s) cs) parts.0 cut.0 parts.2)
      (each_reads ss hs.1 (drop (cell_count s) cs) parts.1 cut.1 parts.3))

  group_of : (vs : Option (List Value)) (x : Value) → option_map grouped vs ≡ Some x → (ws : List Value) × (vs ≡ Some ws) × (grouped ws ≡ x)
  group_of None x e = absurd (none-some x e)
  group_of (Some ws) x e = (ws, refl, same_Some (grouped ws) x e)

  group_reads : (s : Shape) (ss : Shapes) → AllByRecursion Reads (listed (Member s ss)) → Reads (Tuple (Member s ss))
  group_reads s ss hs cs x h e =
      let group = group_of (kept_each (told (Member s ss)) cs) x e in
      subst (λ y. Each P (references_of y)) group.2 (each_reads (Member s ss) hs cs group.0 h group.1)

  shape_reads : (s : Shape) → InParts Reads s → Reads s
  shape_reads (Integer width) hs cs x h e = one_reads cs x h e
  shape_reads (Reference class) hs cs x h e = one_reads cs x h e
  shape_reads (Struct name NoMember) hs cs x h e = one_reads cs x h e
  shape_reads (Struct name (Member s ss)) hs cs x h e = group_reads s ss hs cs x h e
  shape_reads (Tuple NoMember) hs cs x h e = one_reads cs x h e
  shape_reads (Tuple (Member s ss)) hs cs x h e = group_reads s ss hs cs x h e
  shape_reads (Enum name cases) hs cs x h e = one_reads cs x h e
  shape_reads (Stored s inner) hs cs x h e = one_reads cs x h e
  shape_reads Unknown hs cs x h e = one_reads cs x h e

  pub value_names : (s : Shape) (cs : List Cell) (x : Value) → Each Names cs → (in_cells s).value cs ≡ Some x → Each P (references_of x)
  value_names = by_parts Reads shape_reads

  -- ---- cells that are written

  abbrev Writes : Shape → Type 0
  Writes s = (x : Value) → Each P (references_of x) → Each Names ((in_cells s).cells x)

  each_writes : (ss : Shapes) → AllByRecursion Writes (listed ss) → (vs : Values) → Each P (references_in_each vs)
      → Each Names (cells_each (told ss) (value.listed vs))
  each_writes NoMember hs NoValue h = tt
  each_writes NoMember hs (More x xs) h = tt
  each_writes (Member s ss) hs NoValue h = tt
  each_writes (Member s ss) hs (More x xs) h =
      let parts = each_parts P (references_of x) (references_in_each xs) h in
      each_append Names ((in_cells s).cells x) (cells_each (told ss) (value.listed xs)) (hs.0 x parts.0) (each_writes ss hs.1 xs parts.1)

  group_writes : (s : Shape) (ss : Shapes) → AllByRecursion Writes (listed (Member s ss)) → Writes (Tuple (Member s ss))
  group_writes s ss hs (Int n) h = tt
  group_writes s ss hs (Object o) h = tt
  group_writes s ss hs (Group xs) h = each_writes (Member s ss) hs xs h
  group_writes s ss hs (Case k) h = tt
  group_writes s ss hs (Full k x) h = tt

  shape_writes : (s : Shape) → InParts Writes s → Writes s
  shape_writes (Integer width) hs x h = (h, tt)
  shape_writes (Reference class) hs x h = (h, tt)
  shape_writes (Struct name NoMember) hs x h = (h, tt)
  shape_writes (Struct name (Member s ss)) hs x h = group_writes s ss hs x h
  shape_writes (Tuple NoMember) hs x h = (h, tt)
  shape_writes (Tuple (Member s ss)) hs x h = group_writes s ss hs x h
  shape_writes (Enum name cases) hs x h = (h, tt)
  shape_writes (Stored s inner) hs x h = (h, tt)
  shape_writes Unknown hs x h = (h, tt)

  pub cells_name : (s : Shape) (x : Value) → Each P (references_of x) → Each Names ((in_cells s).cells x)
  cells_name = by_parts Writes shape_writes

  -- ---- what is kept in one way

  in_cond : (b : Bool) (os : List ObjectId) → Each P os → Each P (cond b os [])
  in_cond true os h = h
  in_cond false os h = tt

  pub kept_names : (how : Storage) (c : Cell) → Names c → Each P (kept_references how c)
  kept_names how Gone h = tt
  kept_names how Empty h = tt
  kept_names how (Keeps other x) h = in_cond (same_storage how other) (references_of x) h
