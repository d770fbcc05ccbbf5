-- The cells of a value: each shape has one, a value that fits has as many as its shape, all full, and is the one that they keep.
use Rattle.std.proofs.Common.{◌≡◌, ◌<◌, ◌≤◌, ◌+◌, ◌++◌, ℕ, List, [], ◌∷◌, Some, None, true, false, refl, ap, ◌∙◌, arith}
use Rattle.std.specs.Prelude.{map, length, drop, sum, option_map, replicate}
use Rattle.std.specs.List.{AllByRecursion, list_all}
use Rattle.std.proofs.lemmas.Bool.{and_from, and_parts, false≢true}
use Rattle.std.proofs.lemmas.List.{drop_at, length-append, take-replicate, take_at}
use Rattle.std.proofs.lemmas.List.Sums.{sum_by-cons}
use Rattle.holder_model_values.specs.RunValues.Cells.{Cell, Empty, InCells, cell_count, cells_each, cells_layer, in_cells, kept, kept_each, width_of}
use Rattle.holder_model_values.specs.RunValues.inner.Fits.{are_members, fit_each, fits, fits_layer}
use Rattle.holder_model_values.specs.RunValues.Leaves.{with_more}
use Rattle.holder_model_values.specs.RunValues.Places.{is_empty_cell, is_there}
use Rattle.holder_model_values.specs.RunValues.Shapes.{Shape, Shapes, NoMember, Member, Integer, Reference, Struct, Tuple, Enum, Stored, Unknown, each_by_layers, listed}
use Rattle.holder_model_values.specs.RunValues.Values.{Value, Group, Values, NoValue, More, grouped, members_of}
use Rattle.holder_model_values.specs.RunValues.Values as value
use Rattle.holder_model_values.proofs.ValueParts.Inductions.{InParts, by_parts}
use Rattle.holder_model_values.proofs.ValueParts.Members.{group_again}

abbrev told : Shapes → List InCells
told ss = each_by_layers cells_layer ss

abbrev widths : Shapes → ℕ
widths ss = sum (map width_of (told ss))

first_width : (s : Shape) (ss : Shapes) → widths (Member s ss) ≡ cell_count s + widths ss
first_width s ss = sum_by-cons (λ n. n) (cell_count s) (map width_of (told ss))

-- each shape has a cell

abbrev HasCell : Shape → Type 0
HasCell s = 0 < cell_count s

shape_has_cell : (s : Shape) → InParts HasCell s → HasCell s
shape_has_cell (Integer width) hs = omega arith
shape_has_cell (Reference class) hs = omega arith
shape_has_cell (Struct name NoMember) hs = omega arith
shape_has_cell (Struct name (Member s ss)) hs = omega (arith, hs.0, first_width s ss)
shape_has_cell (Tuple NoMember) hs = omega arith
shape_has_cell (Tuple (Member s ss)) hs = omega (arith, hs.0, first_width s ss)
shape_has_cell (Enum name cases) hs = omega arith
shape_has_cell (Stored storage inner) hs = omega arith
shape_has_cell Unknown hs = omega arith

pub has_cell : (s : Shape) → 0 < cell_count s
has_cell = by_parts HasCell shape_has_cell

-- a value that fits has as many cells as its shape, and is the one that they keep

abbrev Returns : Shape → Type 0
Returns s = (v : Value) → fits s v ≡ true → ((in_cells s).value ((in_cells s).cells v) ≡ Some v) × (length ((in_cells s).cells v) ≡ cell_count s)

each_returns : (ss : Shapes) → AllByRecursion Returns (listed ss) → (vs : Values) → fit_each (each_by_layers fits_layer ss) (value.listed vs) ≡ true
    → (kept_each (told ss) (cells_each (told ss) (value.listed vs)) ≡ Some (value.listed vs)) × (length (cells_each (told ss) (value.listed vs)) ≡ widths ss)
each_returns NoMember hs NoValue h = (refl, refl)
each_returns NoMember hs (More v vs) h = absurd (false≢true h)
each_returns (Member s ss) hs NoValue h = absurd (false≢true h)
each_returns (Member s ss) hs (More v vs) h =
    let parts = and_parts (fits s v) (fit_each (each_by_layers fits_layer ss) (value.listed vs)) h in
    let first = hs.0 v parts.0 in
    let others = each_returns ss hs.1 vs parts.1 in
    let mine = (in_cells s).cells v in
    let behind = cells_each (told ss) (value.listed vs) in (
      ap (λ cs. with_more ((in_cells s).value cs) (kept_each (told ss) (drop (cell_count s) (mine ++ behind)))) (take_at mine behind (cell_count s) first.1)
          ∙ ap (λ cs. with_more ((in_cells s).value mine) (kept_each (told ss) cs)) (drop_at mine behind (cell_count s) first.1)
          ∙ ap (λ x. with_more x (kept_each (told ss) behind)) first.0
          ∙ ap (with_more (Some v)) others.0,
      length-append mine behind ∙ omega (arith, first_width s ss, first.1, others.1),
    )

group_returns : (s : Shape) (ss : Shapes) → AllByRecursion Returns (listed (Member s ss)) → (v : Value) → are_members (each_by_layers fits_layer (Member s ss)) (members_of v) ≡ true
    → ((in_cells (Tuple (Member s ss))).value ((in_cells (Tuple (Member s ss))).cells v) ≡ Some v) × (length ((in_cells (Tuple (Member s ss))).cells v) ≡ widths (Member s ss))
group_returns s ss hs (Group vs) h =
    let back = each_returns (Member s ss) hs vs h in
    (ap (option_map grouped) back.0 ∙ ap Some (group_again vs), back.1)
group_returns s ss hs v h = absurd (false≢true h)

shape_returns : (s : Shape) → InParts Returns s → Returns s
shape_returns (Integer width) hs v h = (refl, refl)
shape_returns (Reference class) hs v h = (refl, refl)
shape_returns (Struct name NoMember) hs v h = (refl, refl)
shape_returns (Struct name (Member s ss)) hs v h = group_returns s ss hs v h
shape_returns (Tuple NoMember) hs v h = (refl, refl)
shape_returns (Tuple (Member s ss)) hs v h = group_returns s ss hs v h
shape_returns (Enum name cases) hs v h = (refl, refl)
shape_returns (Stored storage inner) hs v h = (refl, refl)
shape_returns Unknown hs v h = (refl, refl)

returns : (s : Shape) → Returns s
returns = by_parts Returns shape_returns

pub cells_back : (s : Shape) (v : Value) → fits s v ≡ true → (in_cells s).value ((in_cells s).cells v) ≡ Some v
cells_back s v h = (returns s v h).0

pub cells_length : (s : Shape) (v : Value) → fits s v ≡ true → length ((in_cells s).cells v) ≡ cell_count s
cells_length s v h = (returns s v h).1

-- all of them are full

abbrev IsFull : Cell → Type 0
IsFull c = (is_there c ≡ true) × (is_empty_cell c ≡ false)

append_full : (cs ds : List Cell) → AllByRecursion IsFull cs → AllByRecursion IsFull ds → AllByRecursion IsFull (cs ++ ds)
append_full [] ds hs more = more
append_full (c ∷ cs) ds hs more = (hs.0, append_full cs ds hs.1 more)

abbrev FillsAll : Shape → Type 0
FillsAll s = (v : Value) → AllByRecursion IsFull ((in_cells s).cells v)

each_full : (ss : Shapes) → AllByRecursion FillsAll (listed ss) → (vs : List Value) → AllByRecursion IsFull (cells_each (told ss) vs)
each_full NoMember hs vs = tt
each_full (Member s ss) hs [] = tt
each_full (Member s ss) hs (v ∷ vs) = append_full ((in_cells s).cells v) (cells_each (told ss) vs) (hs.0 v) (each_full ss hs.1 vs)

shape_full : (s : Shape) → InParts FillsAll s → FillsAll s
shape_full (Integer width) hs v = ((refl, refl), tt)
shape_full (Reference class) hs v = ((refl, refl), tt)
shape_full (Struct name NoMember) hs v = ((refl, refl), tt)
shape_full (Struct name (Member s ss)) hs v = each_full (Member s ss) hs _
shape_full (Tuple NoMember) hs v = ((refl, refl), tt)
shape_full (Tuple (Member s ss)) hs v = each_full (Member s ss) hs _
shape_full (Enum name cases) hs v = ((refl, refl), tt)
shape_full (Stored storage inner) hs v = ((refl, refl), tt)
shape_full Unknown hs v = ((refl, refl), tt)

full_there : (cs : List Cell) → AllByRecursion IsFull cs → list_all is_there cs ≡ true
full_there [] hs = refl
full_there (c ∷ cs) hs = and_from (is_there c) (list_all is_there cs) hs.0.0 (full_there cs hs.1)

pub cells_there : (s : Shape) (v : Value) → list_all is_there ((in_cells s).cells v) ≡ true
cells_there s v = full_there ((in_cells s).cells v) (by_parts FillsAll shape_full s v)

-- cells that keep nothing are no value

abbrev KeepsNone : Cell → Shape → Type 0
KeepsNone c s = (in_cells s).value (replicate (cell_count s) c) ≡ None

first_none : (c : Cell) (s : Shape) (ss : Shapes) → KeepsNone c s → kept_each (told (Member s ss)) (replicate (widths (Member s ss)) c) ≡ None
first_none c s ss h =
    let all = replicate (widths (Member s ss)) c in
    let fewer : cell_count s ≤ widths (Member s ss) = omega (arith, first_width s ss) in
    ap (λ cs. with_more ((in_cells s).value cs) (kept_each (told ss) (drop (cell_count s) all))) (take-replicate (cell_count s) (widths (Member s ss)) c fewer)
    ∙ ap (λ x. with_more x (kept_each (told ss) (drop (cell_count s) all))) h

shape_none : (c : Cell) → kept c ≡ None → (s : Shape) → InParts (KeepsNone c) s → KeepsNone c s
shape_none c e (Integer width) hs = e
shape_none c e (Reference class) hs = e
shape_none c e (Struct name NoMember) hs = e
shape_none c e (Struct name (Member s ss)) hs = ap (option_map grouped) (first_none c s ss hs.0)
shape_none c e (Tuple NoMember) hs = e
shape_none c e (Tuple (Member s ss)) hs = ap (option_map grouped) (first_none c s ss hs.0)
shape_none c e (Enum name cases) hs = e
shape_none c e (Stored storage inner) hs = e
shape_none c e Unknown hs = e

pub empty_is_none : (s : Shape) → (in_cells s).value (replicate (cell_count s) Empty) ≡ None
empty_is_none = by_parts (KeepsNone Empty) (shape_none Empty refl)
