-- What the cells of a value hold.
use Rattle.std.proofs.Common.{◌≡◌, ℕ, zero, suc, ◌+◌, ◌≤◌, List, [], ◌∷◌, ◌++◌, map, sum, length, take, drop, refl, sym, ap, ◌∙◌, Option, Some, None, arith}
use Rattle.std.specs.Prelude.{option_map}
use Rattle.std.specs.List.{AllByRecursion}
use Rattle.std.proofs.lemmas.List.{length-drop, length-take-le}
use Rattle.std.proofs.lemmas.List.Sums.{sum_by-cons}
use Rattle.numbered_form.specs.Lists.{Each}
use Rattle.sil_ast.specs.declared.decl.Storage.{Storage}
use Rattle.sil_ast.specs.declared.decl.Storage.TheVariants as storage
use Rattle.sil_ast.specs.declared.place.ObjectId.{ObjectId}
use Rattle.holder_model.specs.holder_model_values.RunValues.Cells.{Cell, Gone, Empty, InCells, Keeps, cell_count, cells_each, cells_layer, in_cells, kept, kept_each, kept_first, width_of}
use Rattle.holder_model.specs.holder_model_values.RunValues.Leaves.{with_more}
use Rattle.holder_model.specs.holder_model_values.RunValues.Shapes.{Shape, Shapes, NoMember, Member, Integer, Reference, Struct, Tuple, Enum, Stored, Unknown, each_by_layers, listed}
use Rattle.holder_model.specs.holder_model_values.RunValues.Values.{Value, Int, Object, Group, Case, Full, Values, NoValue, More, grouped, references_in_each, references_of, values_of}
use Rattle.holder_model.specs.holder_model_values.RunValues.Values as value
use Rattle.holder_model.proofs.holder_model_values.ValueParts.Inductions.{InParts, by_parts}
use Rattle.holder_model.specs.Holders.{in_cell, of_references}
use Rattle.holder_model.specs.Holders as holders
use Rattle.holder_model_laws.specs.HolderLaws.inner.Counts.Keeping.{AreReadCounted, AreWrittenCounted, KeepsStrongly}
use Rattle.holder_model_laws.proofs.HolderLaws.Counts.Sums.{total_append, total_cons, total_cut}

abbrev told : Shapes → List InCells
told ss = each_by_layers cells_layer ss

abbrev widths : Shapes → ℕ
widths ss = sum (map width_of (told ss))

first_width : (s : Shape) (ss : Shapes) → widths (Member s ss) ≡ cell_count s + widths ss
first_width s ss = sum_by-cons (λ n. n) (cell_count s) (map width_of (told ss))

each_take : {A : Type 0} (P : A → Type 0) (n : ℕ) (xs : List A) → Each P xs → Each P (take n xs) × Each P (drop n xs)
each_take P zero xs h = (tt, h)
each_take P (suc n) [] h = (tt, tt)
each_take P (suc n) (x ∷ xs) h = let r = each_take P n xs h.1 in ((h.0, r.0), r.1)

module _ (weight : ObjectId → ℕ) where
  abbrev held : List Cell → ℕ
  held cs = holders.in_cells weight storage.Strong cs

  -- ---- cells that are read

  abbrev Reads : Shape → Type 0
  Reads s = (cs : List Cell) (x : Value) → Each KeepsStrongly cs → length cs ≡ cell_count s → (in_cells s).value cs ≡ Some x
      → of_references weight (references_of x) ≡ held cs

  kept_strongly : (c : Cell) (x : Value) → KeepsStrongly c → kept c ≡ Some x → of_references weight (references_of x) ≡ in_cell weight storage.Strong c
  kept_strongly Gone x h e = cc
  kept_strongly Empty x h e = cc
  kept_strongly (Keeps how y) x h e =
      let same : y ≡ x = cc in
      ap (λ z. of_references weight (references_of z)) (sym same) ∙ ap (λ s. in_cell weight storage.Strong (Keeps s y)) (sym h)

  one_reads : (cs : List Cell) (x : Value) → Each KeepsStrongly cs → length cs ≡ 1 → kept_first cs ≡ Some x → of_references weight (references_of x) ≡ held cs
  one_reads [] x h one e = cc
  one_reads (c ∷ []) x h one e =
      let here : of_references weight (references_of x) ≡ in_cell weight storage.Strong c = kept_strongly c x h.0 e in
      let whole : held (c ∷ []) ≡ in_cell weight storage.Strong c + 0 = total_cons (in_cell weight storage.Strong) c [] in
      omega (arith, here, whole)
  one_reads (c ∷ d ∷ cs) x h one e = absurd (omega arith)

  more_parts : (x : Option Value) (vs : Option (List Value)) (all : List Value) → with_more x vs ≡ Some all
      → (y : Value) × (ys : List Value) × (x ≡ Some y) × (vs ≡ Some ys) × (all ≡ y ∷ ys)
  more_parts None vs all e = cc
  more_parts (Some y) None all e = cc
  more_parts (Some y) (Some ys) all e = (y, ys, refl, refl, cc)

  each_reads : (ss : Shapes) → AllByRecursion Reads (listed ss) → (cs : List Cell) (vs : List Value) → Each KeepsStrongly cs → length cs ≡ widths ss
      → kept_each (told ss) cs ≡ Some vs → of_references weight (references_in_each (values_of vs)) ≡ held cs
  each_reads NoMember hs [] vs h count e = let same : [] ≡ vs = cc in ap (λ ws. of_references weight (references_in_each (values_of ws))) (sym same)
  each_reads NoMember hs (c ∷ cs) vs h count e = absurd (omega arith)
  each_reads (Member s ss) hs cs vs h count e =
      let parts = more_parts ((in_cells s).value (take (cell_count s) cs)) (kept_each (told ss) (drop (cell_count s) cs)) vs e in
      let strong = each_take KeepsStrongly (cell_count s) cs h in
      let wide : widths (Member s ss) ≡ cell_count s + widths ss = first_width s ss in
      let first_count : length (take (cell_count s) cs) ≡ cell_count s = length-take-le (cell_count s) cs (omega (arith, count, wide)) in
      let rest_count : length (drop (cell_count s) cs) ≡ widths ss = omega (arith, count, wide, length-drop (cell_count s) cs) in
      let first : of_references weight (references_of parts.0) ≡ held (take (cell_count s) cs) =
      hs.0 (take (cell_count s) cs) parts.0 strong.0 first_count parts.2 in
      let rest : of_references weight (references_in_each (values_of parts.1)) ≡ held (drop (cell_count s) cs) =
      each_reads ss hs.1 (drop (cell_count s) cs) parts.1 strong.1 rest_count parts.3 in
      let both : of_references weight (references_of parts.0 ++ references_in_each (values_of parts.1))
      ≡ of_references weight (references_of parts.0) + of_references weight (references_in_each (values_of parts.1)) =
      total_append weight (references_of parts.0) (references_in_each (values_of parts.1)) in
      let cut : held (take (cell_count s) cs) + held (drop (cell_count s) cs) ≡ held cs = total_cut (in_cell weight storage.Strong) cs (cell_count s) in
      let all : of_references weight (references_in_each (values_of vs)) ≡ of_references weight (references_of parts.0 ++ references_in_each (values_of parts.1)) =
      ap (λ ws. of_references weight (references_in_each (values_of ws))) parts.4 in
      omega (arith, first, rest, both, cut, all)

  group_of : (vs : Option (List Value)) (x : Value) → option_map grouped vs ≡ Some x → (ws : List Value) × (vs ≡ Some ws) × (x ≡ grouped ws)
  group_of None x e = cc
  group_of (Some ws) x e = (ws, refl, cc)

  group_reads : (s : Shape) (ss : Shapes) → AllByRecursion Reads (listed (Member s ss)) → Reads (Tuple (Member s ss))
  group_reads s ss hs cs x h count e =
      let group = group_of (kept_each (told (Member s ss)) cs) x e in
      let all : of_references weight (references_in_each (values_of group.0)) ≡ held cs = each_reads (Member s ss) hs cs group.0 h count group.1 in
      ap (λ y. of_references weight (references_of y)) group.2 ∙ all

  shape_reads : (s : Shape) → InParts Reads s → Reads s
  shape_reads (Integer width) hs cs x h count e = one_reads cs x h count e
  shape_reads (Reference class) hs cs x h count e = one_reads cs x h count e
  shape_reads (Struct name NoMember) hs cs x h count e = one_reads cs x h count e
  shape_reads (Struct name (Member s ss)) hs cs x h count e = group_reads s ss hs cs x h count e
  shape_reads (Tuple NoMember) hs cs x h count e = one_reads cs x h count e
  shape_reads (Tuple (Member s ss)) hs cs x h count e = group_reads s ss hs cs x h count e
  shape_reads (Enum name cases) hs cs x h count e = one_reads cs x h count e
  shape_reads (Stored s inner) hs cs x h count e = one_reads cs x h count e
  shape_reads Unknown hs cs x h count e = one_reads cs x h count e

  -- ---- cells that are written

  abbrev Writes : Shape → Type 0
  Writes s = (x : Value) → held ((in_cells s).cells x) ≤ of_references weight (references_of x)

  one_writes : (s : Storage) (x : Value) → held (Keeps s x ∷ []) ≤ of_references weight (references_of x)
  one_writes s x =
      let whole : held (Keeps s x ∷ []) ≡ in_cell weight storage.Strong (Keeps s x) + 0 = total_cons (in_cell weight storage.Strong) (Keeps s x) [] in
      let here = by_storage s in
      omega (arith, whole, here)
    where
      by_storage : (s : Storage) → in_cell weight storage.Strong (Keeps s x) ≤ of_references weight (references_of x)
      by_storage storage.Strong = omega arith
      by_storage storage.Weak = omega arith
      by_storage storage.Unowned = omega arith

  each_writes : (ss : Shapes) → AllByRecursion Writes (listed ss) → (vs : Values) → held (cells_each (told ss) (value.listed vs)) ≤ of_references weight (references_in_each vs)
  each_writes NoMember hs vs = omega arith
  each_writes (Member s ss) hs NoValue = omega arith
  each_writes (Member s ss) hs (More v vs) =
      let first : held ((in_cells s).cells v) ≤ of_references weight (references_of v) = hs.0 v in
      let rest : held (cells_each (told ss) (value.listed vs)) ≤ of_references weight (references_in_each vs) = each_writes ss hs.1 vs in
      let cells : held ((in_cells s).cells v ++ cells_each (told ss) (value.listed vs)) ≡ held ((in_cells s).cells v) + held (cells_each (told ss) (value.listed vs)) =
      total_append (in_cell weight storage.Strong) ((in_cells s).cells v) (cells_each (told ss) (value.listed vs)) in
      let references : of_references weight (references_of v ++ references_in_each vs) ≡ of_references weight (references_of v) + of_references weight (references_in_each vs) =
      total_append weight (references_of v) (references_in_each vs) in
      omega (arith, first, rest, cells, references)

  none_writes : (ss : Shapes) → held (cells_each (told ss) []) ≡ 0
  none_writes NoMember = refl
  none_writes (Member s ss) = refl

  group_writes : (s : Shape) (ss : Shapes) → AllByRecursion Writes (listed (Member s ss)) → Writes (Tuple (Member s ss))
  group_writes s ss hs (Group vs) = each_writes (Member s ss) hs vs
  group_writes s ss hs (Int n) = omega arith
  group_writes s ss hs (Object o) = let none : held (cells_each (told (Member s ss)) []) ≡ 0 = none_writes (Member s ss) in omega arith
  group_writes s ss hs (Case k) = omega arith
  group_writes s ss hs (Full k x) = let none : held (cells_each (told (Member s ss)) []) ≡ 0 = none_writes (Member s ss) in omega arith

  shape_writes : (s : Shape) → InParts Writes s → Writes s
  shape_writes (Integer width) hs x = one_writes storage.Strong x
  shape_writes (Reference class) hs x = one_writes storage.Strong x
  shape_writes (Struct name NoMember) hs x = one_writes storage.Strong x
  shape_writes (Struct name (Member s ss)) hs x = group_writes s ss hs x
  shape_writes (Tuple NoMember) hs x = one_writes storage.Strong x
  shape_writes (Tuple (Member s ss)) hs x = group_writes s ss hs x
  shape_writes (Enum name cases) hs x = one_writes storage.Strong x
  shape_writes (Stored s inner) hs x = one_writes s x
  shape_writes Unknown hs x = one_writes storage.Strong x

pub read_counted : AreReadCounted
read_counted weight = by_parts (Reads weight) (shape_reads weight)

pub written_counted : AreWrittenCounted
written_counted weight = by_parts (Writes weight) (shape_writes weight)
