-- The cells of a shape keep a value just where each of them keeps one.
use Rattle.std.proofs.Common.{◌≡◌, ◌<◌, ◌≤◌, ◌+◌, ◌-◌, ℕ, zero, suc, List, [], ◌∷◌, Option, Some, None, map, take, drop, sum, slice_get, true, refl, sym, ap, ◌∙◌, subst, ⊎_elim, arith}
use Rattle.std.specs.Prelude.{option_map}
use Rattle.std.specs.List.{AllByRecursion}
use Rattle.std.proofs.lemmas.Bool.{cases_lt}
use Rattle.std.proofs.lemmas.List.Sums.{sum_by-cons}
use Rattle.std.proofs.lemmas.Option.{none-some, same_Some}
use Rattle.holder_model.specs.holder_model_values.RunValues.Cells.{Cell, Gone, Empty, Keeps, InCells, cell_count, cells_layer, in_cells, kept, kept_each, kept_first, width_of}
use Rattle.holder_model.specs.holder_model_values.RunValues.inner.Fits.{fits}
use Rattle.holder_model.specs.holder_model_values.RunValues.Leaves.{with_more}
use Rattle.holder_model.specs.holder_model_values.RunValues.Shapes.{Shape, Shapes, NoMember, Member, Integer, Reference, Struct, Tuple, Enum, Stored, Unknown, each_by_layers, listed}
use Rattle.holder_model.specs.holder_model_values.RunValues.Values.{Value, grouped}
use Rattle.holder_model.proofs.holder_model_values.ValueParts.Cells.{cells_back}
use Rattle.holder_model.proofs.holder_model_values.ValueParts.Inductions.{InParts, by_parts}
use Rattle.holder_model_laws.specs.HolderLaws.inner.Cells.Cells.{IsFullCell}
use Rattle.holder_model_laws.proofs.HolderLaws.Cells.Lists.{get_drop, get_take}

abbrev told : Shapes → List InCells
told ss = each_by_layers cells_layer ss

abbrev widths : Shapes → ℕ
widths ss = sum (map width_of (told ss))

first_width : (s : Shape) (ss : Shapes) → widths (Member s ss) ≡ cell_count s + widths ss
first_width s ss = sum_by-cons (λ n. n) (cell_count s) (map width_of (told ss))

-- so many cells from the first on are full
abbrev pub AreFull : ℕ → List Cell → Type 0
AreFull n cells = (k : ℕ) → k < n → IsFullCell (slice_get cells k)

-- ---- where a value is kept, each cell is full

abbrev FillsEach : Shape → Type 0
FillsEach s = (cells : List Cell) (x : Value) → (in_cells s).value cells ≡ Some x → AreFull (cell_count s) cells

one_full : (cells : List Cell) (x : Value) → kept_first cells ≡ Some x → AreFull 1 cells
one_full [] x e k lt = absurd (none-some x e)
one_full (Gone ∷ cs) x e k lt = absurd (none-some x e)
one_full (Empty ∷ cs) x e k lt = absurd (none-some x e)
one_full (Keeps how y ∷ cs) x e zero lt = (how, y, refl)
one_full (Keeps how y ∷ cs) x e (suc k) lt = absurd (omega arith)

more_parts : (o : Option Value) (vs : Option (List Value)) (xs : List Value) → with_more o vs ≡ Some xs
    → (x : Value) × (ys : List Value) × (o ≡ Some x) × (vs ≡ Some ys)
more_parts None vs xs e = absurd (none-some xs e)
more_parts (Some x) None xs e = absurd (none-some xs e)
more_parts (Some x) (Some ys) xs e = (x, ys, refl, refl)

group_parts : (o : Option (List Value)) (x : Value) → option_map grouped o ≡ Some x → (xs : List Value) × (o ≡ Some xs)
group_parts None x e = absurd (none-some x e)
group_parts (Some xs) x e = (xs, refl)

each_full : (ss : Shapes) → AllByRecursion FillsEach (listed ss) → (cells : List Cell) (xs : List Value) → kept_each (told ss) cells ≡ Some xs
    → AreFull (widths ss) cells
each_full NoMember hs cells xs e k lt = absurd (omega arith)
each_full (Member s ss) hs cells xs e k lt =
    let parts = more_parts ((in_cells s).value (take (cell_count s) cells)) (kept_each (told ss) (drop (cell_count s) cells)) xs e in
    ⊎_elim
    (λ (early : k < cell_count s). subst IsFullCell (get_take (cell_count s) cells k early) (hs.0 (take (cell_count s) cells) parts.0 parts.2 k early))
    (λ (late : cell_count s ≤ k).
    let j = k - cell_count s in
    let at : cell_count s + j ≡ k = omega (arith, late) in
    let below : j < widths ss = omega (arith, late, lt, first_width s ss) in
    subst (λ n. IsFullCell (slice_get cells n)) at
    (subst IsFullCell (get_drop (cell_count s) cells j) (each_full ss hs.1 (drop (cell_count s) cells) parts.1 parts.3 j below)))
    (cases_lt k (cell_count s))

group_full : (s : Shape) (ss : Shapes) → AllByRecursion FillsEach (listed (Member s ss)) → (cells : List Cell) (x : Value)
    → option_map grouped (kept_each (told (Member s ss)) cells) ≡ Some x → AreFull (widths (Member s ss)) cells
group_full s ss hs cells x e =
    let parts = group_parts (kept_each (told (Member s ss)) cells) x e in
    each_full (Member s ss) hs cells parts.0 parts.1

shape_full : (s : Shape) → InParts FillsEach s → FillsEach s
shape_full (Integer width) hs cells x e = one_full cells x e
shape_full (Reference class) hs cells x e = one_full cells x e
shape_full (Struct name NoMember) hs cells x e = one_full cells x e
shape_full (Struct name (Member s ss)) hs cells x e = group_full s ss hs cells x e
shape_full (Tuple NoMember) hs cells x e = one_full cells x e
shape_full (Tuple (Member s ss)) hs cells x e = group_full s ss hs cells x e
shape_full (Enum name cases) hs cells x e = one_full cells x e
shape_full (Stored storage inner) hs cells x e = one_full cells x e
shape_full Unknown hs cells x e = one_full cells x e

pub kept_is_full : (s : Shape) (cells : List Cell) (x : Value) → (in_cells s).value cells ≡ Some x → AreFull (cell_count s) cells
kept_is_full = by_parts FillsEach shape_full

-- the cells of a value
pub cells_full : (s : Shape) (x : Value) → fits s x ≡ true → AreFull (cell_count s) ((in_cells s).cells x)
cells_full s x h = kept_is_full s ((in_cells s).cells x) x (cells_back s x h)

-- ---- where each cell is full, a value is kept

abbrev IsKept : Shape → Type 0
IsKept s = (cells : List Cell) → AreFull (cell_count s) cells → (x : Value) × ((in_cells s).value cells ≡ Some x)

one_kept : (cells : List Cell) → AreFull 1 cells → (x : Value) × (kept_first cells ≡ Some x)
one_kept [] h = let first = h 0 (omega arith) in absurd (none-some (Keeps first.0 first.1) first.2)
one_kept (c ∷ cs) h = let first = h 0 (omega arith) in (first.1, ap kept (same_Some c (Keeps first.0 first.1) first.2))

each_kept : (ss : Shapes) → AllByRecursion IsKept (listed ss) → (cells : List Cell) → AreFull (widths ss) cells
    → (xs : List Value) × (kept_each (told ss) cells ≡ Some xs)
each_kept NoMember hs cells h = ([], refl)
each_kept (Member s ss) hs cells h =
    let wide = first_width s ss in
    let first = hs.0 (take (cell_count s) cells) (λ k lt. subst IsFullCell (sym (get_take (cell_count s) cells k lt)) (h k (omega (arith, lt, wide)))) in
    let rest = each_kept ss hs.1 (drop (cell_count s) cells)
    (λ k lt. subst IsFullCell (sym (get_drop (cell_count s) cells k)) (h (cell_count s + k) (omega (arith, lt, wide)))) in
    (first.0 ∷ rest.0, ap (λ o. with_more o (kept_each (told ss) (drop (cell_count s) cells))) first.1 ∙ ap (with_more (Some first.0)) rest.1)

group_kept : (s : Shape) (ss : Shapes) → AllByRecursion IsKept (listed (Member s ss)) → (cells : List Cell) → AreFull (widths (Member s ss)) cells
    → (x : Value) × (option_map grouped (kept_each (told (Member s ss)) cells) ≡ Some x)
group_kept s ss hs cells h = let all = each_kept (Member s ss) hs cells h in (grouped all.0, ap (option_map grouped) all.1)

shape_kept : (s : Shape) → InParts IsKept s → IsKept s
shape_kept (Integer width) hs cells h = one_kept cells h
shape_kept (Reference class) hs cells h = one_kept cells h
shape_kept (Struct name NoMember) hs cells h = one_kept cells h
shape_kept (Struct name (Member s ss)) hs cells h = group_kept s ss hs cells h
shape_kept (Tuple NoMember) hs cells h = one_kept cells h
shape_kept (Tuple (Member s ss)) hs cells h = group_kept s ss hs cells h
shape_kept (Enum name cases) hs cells h = one_kept cells h
shape_kept (Stored storage inner) hs cells h = one_kept cells h
shape_kept Unknown hs cells h = one_kept cells h

pub full_is_kept : (s : Shape) (cells : List Cell) → AreFull (cell_count s) cells → (x : Value) × ((in_cells s).value cells ≡ Some x)
full_is_kept = by_parts IsKept shape_kept
