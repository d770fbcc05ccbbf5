-- The shapes that cells keep: as many as there are cells, and those of a part lie where its cells lie.
use Rattle.std.proofs.Common.{◌≡◌, ◌+◌, ◌++◌, ℕ, zero, suc, List, [], ◌∷◌, Some, length, map, sum, take, refl, sym, ap, ◌∙◌, subst, arith}
use Rattle.std.specs.Prelude.{slice_get, unwrap_or}
use Rattle.std.specs.List.{AllByRecursion, flat_map}
use Rattle.std.proofs.lemmas.List.{append-nil, length-append}
use Rattle.std.proofs.lemmas.List.Sums.{sum_by-cons}
use Rattle.std.proofs.lemmas.Option.{none-some, same_Some}
use Rattle.holder_model.specs.holder_model_values.RunValues.Cells.{cell_count, cells_layer, width_of}
use Rattle.holder_model.specs.holder_model_values.RunValues.Places.{Place, offset}
use Rattle.holder_model.specs.holder_model_values.RunValues.Shapes.{Shape, Shapes, NoMember, Member, Integer, Reference, Struct, Tuple, Enum, Stored, Unknown, each_by_layers, listed, member_shapes}
use Rattle.holder_model.specs.holder_model_values.ValueParts.inner.Paths.{IsPart, here, inside, cells_before}
use Rattle.holder_model.proofs.holder_model_values.ValueParts.Inductions.{InParts, by_parts}
use Rattle.holder_model_typing.specs.TypedMemory.inner.Worlds.{IsIn, cell_shapes, each_cell_shapes}
use Rattle.holder_model_typing.proofs.TypedMemory.Zips.{Within, within_itself, within_part}

-- how many

abbrev Counts : Shape → Type 0
Counts s = length (cell_shapes s) ≡ cell_count s

each_counts : (ss : Shapes) → AllByRecursion Counts (listed ss) → length (each_cell_shapes ss) ≡ sum (map width_of (each_by_layers cells_layer ss))
each_counts NoMember hs = refl
each_counts (Member s ss) hs =
    let others = each_counts ss hs.1 in
    let all = sum_by-cons (λ n. n) (cell_count s) (map width_of (each_by_layers cells_layer ss)) in
    length-append (cell_shapes s) (each_cell_shapes ss) ∙ omega (arith, hs.0, others, all)

shape_counts : (s : Shape) → InParts Counts s → Counts s
shape_counts (Integer width) hs = refl
shape_counts (Reference class) hs = refl
shape_counts (Struct name NoMember) hs = refl
shape_counts (Struct name (Member s ss)) hs = each_counts (Member s ss) hs
shape_counts (Tuple NoMember) hs = refl
shape_counts (Tuple (Member s ss)) hs = each_counts (Member s ss) hs
shape_counts (Enum name cases) hs = refl
shape_counts (Stored storage inner) hs = refl
shape_counts Unknown hs = refl

pub shape_count : (s : Shape) → length (cell_shapes s) ≡ cell_count s
shape_count = by_parts Counts shape_counts

pub shapes_count : (ss : List Shape) → length (flat_map cell_shapes ss) ≡ sum (map cell_count ss)
shapes_count [] = refl
shapes_count (s ∷ ss) =
    let others = shapes_count ss in
    let all = sum_by-cons (λ n. n) (cell_count s) (map cell_count ss) in
    length-append (cell_shapes s) (flat_map cell_shapes ss) ∙ omega (arith, shape_count s, others, all)

-- those of members, side by side

each_listed : (ss : Shapes) → each_cell_shapes ss ≡ flat_map cell_shapes (listed ss)
each_listed NoMember = refl
each_listed (Member s ss) = ap (λ ts. cell_shapes s ++ ts) (each_listed ss)

shapes_laid : (s t : Shape) (k : ℕ) → slice_get (member_shapes s) k ≡ Some t → cell_shapes s ≡ flat_map cell_shapes (member_shapes s)
shapes_laid (Integer width) t k e = cc
shapes_laid (Reference class) t k e = cc
shapes_laid (Struct name NoMember) t k e = cc
shapes_laid (Struct name (Member s ss)) t k e = each_listed (Member s ss)
shapes_laid (Tuple NoMember) t k e = cc
shapes_laid (Tuple (Member s ss)) t k e = each_listed (Member s ss)
shapes_laid (Enum name cases) t k e = cc
shapes_laid (Stored storage inner) t k e = cc
shapes_laid Unknown t k e = cc

-- where those of one lie

pub listed_within : (ss : List Shape) (k : ℕ) (s : Shape) → slice_get ss k ≡ Some s → Within (flat_map cell_shapes ss) (offset ss k) (cell_shapes s)
listed_within [] k s e = absurd (none-some s e)
listed_within (t ∷ ss) zero s e = record { before = []; behind = flat_map cell_shapes ss; count = refl; splits = ap (λ u. cell_shapes u ++ flat_map cell_shapes ss) (same_Some t s e) }
listed_within (t ∷ ss) (suc k) s e =
    let others = listed_within ss k s e in
    let first : Within (flat_map cell_shapes (t ∷ ss)) (cell_count t) (flat_map cell_shapes ss) =
    record { before = cell_shapes t; behind = []; count = shape_count t; splits = ap (λ us. cell_shapes t ++ us) (sym (append-nil (flat_map cell_shapes ss))) } in
    let all : offset (t ∷ ss) (suc k) ≡ cell_count t + offset ss k = sum_by-cons (λ n. n) (cell_count t) (map cell_count (take k ss)) in
    subst (λ n. Within (flat_map cell_shapes (t ∷ ss)) n (cell_shapes s)) (sym all) (within_part first others)

pub part_within : {s u : Shape} {path : List ℕ} → IsPart s path u → Within (cell_shapes s) (cells_before s path) (cell_shapes u)
part_within {s = s} here = within_itself (cell_shapes s)
part_within (inside {s = s} {t = t} {u = u} {k = k} {path = path} e part) =
    let along : cells_before s (k ∷ path) ≡ offset (member_shapes s) k + cells_before t path =
    ap (λ o. offset (member_shapes s) k + cells_before (unwrap_or o Unknown) path) e in
    subst (λ n. Within (cell_shapes s) n (cell_shapes u)) (sym along)
    (subst (λ ss. Within ss (offset (member_shapes s) k + cells_before t path) (cell_shapes u)) (sym (shapes_laid s t k e))
    (within_part (listed_within (member_shapes s) k t e) (part_within part)))

pub place_within : (shapes : List Shape) (p : Place) → IsIn shapes p → Within (flat_map cell_shapes shapes) p.first (cell_shapes p.shape)
place_within shapes p at =
    subst (λ n. Within (flat_map cell_shapes shapes) n (cell_shapes p.shape)) (sym at.first)
    (within_part (listed_within shapes at.number at.whole at.there) (part_within at.part))
