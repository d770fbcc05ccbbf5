-- Paths: where a part begins, that it lies within the whole, and a path behind a path.
use Rattle.std.proofs.Common.{◌≡◌, ◌≤◌, ◌+◌, ◌++◌, ℕ, zero, suc, List, [], ◌∷◌, Some, map, sum, take, ap, ◌∙◌, arith}
use Rattle.std.specs.Prelude.{slice_get, unwrap_or}
use Rattle.std.proofs.lemmas.List.Sums.{sum_by-cons}
use Rattle.std.proofs.lemmas.Option.{none-some, same_Some}
use Rattle.holder_model_values.specs.RunValues.Cells.{cell_count}
use Rattle.holder_model_values.specs.RunValues.Places.{offset}
use Rattle.holder_model_values.specs.RunValues.Shapes.{Shape, Unknown, member_shapes}
use Rattle.holder_model_values.specs.ValueParts.inner.Paths.{IsPart, here, inside, before_along, cells_before, leaf_count, leaf_offset, leaves_before}
use Rattle.holder_model_values.proofs.ValueParts.SideBySide.{cells_summed, leaves_summed}

-- the same for cells and for leaves

module _ (first : List Shape → ℕ → ℕ) where
  along_inside : (s t : Shape) (k : ℕ) (path : List ℕ) → slice_get (member_shapes s) k ≡ Some t → before_along first s (k ∷ path) ≡ first (member_shapes s) k + before_along first t path
  along_inside s t k path e = ap (λ o. first (member_shapes s) k + before_along first (unwrap_or o Unknown) path) e

  along_within : {s t : Shape} {path : List ℕ} → IsPart s path t → (behind : List ℕ) → before_along first s (path ++ behind) ≡ before_along first s path + before_along first t behind
  along_within {s = s} here behind = omega arith
  along_within (inside {s = s} {t = t} {u = u} {k = k} {path = path} e part) behind =
      let deeper = along_within part behind in
      let long = along_inside s t k (path ++ behind) e in
      let short = along_inside s t k path e in
      omega (arith, deeper, long, short)

module _ (width : Shape → ℕ) (summed : (s t : Shape) (k : ℕ) → slice_get (member_shapes s) k ≡ Some t → width s ≡ sum (map width (member_shapes s))) where
  abbrev first_of : List Shape → ℕ → ℕ
  first_of ss k = sum (map width (take k ss))

  member_fits : (ss : List Shape) (k : ℕ) (t : Shape) → slice_get ss k ≡ Some t → first_of ss k + width t ≤ sum (map width ss)
  member_fits [] k t e = absurd (none-some t e)
  member_fits (s ∷ ss) zero t e =
      let same = ap width (same_Some s t e) in
      let all : sum (map width (s ∷ ss)) ≡ width s + sum (map width ss) = sum_by-cons (λ n. n) (width s) (map width ss) in
      omega (arith, same, all)
  member_fits (s ∷ ss) (suc k) t e =
      let others = member_fits ss k t e in
      let all : sum (map width (s ∷ ss)) ≡ width s + sum (map width ss) = sum_by-cons (λ n. n) (width s) (map width ss) in
      let front : first_of (s ∷ ss) (suc k) ≡ width s + first_of ss k = sum_by-cons (λ n. n) (width s) (map width (take k ss)) in
      omega (arith, others, all, front)

  part_fits : {s u : Shape} {path : List ℕ} → IsPart s path u → before_along first_of s path + width u ≤ width s
  part_fits here = omega arith
  part_fits (inside {s = s} {t = t} {u = u} {k = k} {path = path} e part) =
      let deeper = part_fits part in
      let along = along_inside first_of s t k path e in
      let member = member_fits (member_shapes s) k t e in
      omega (arith, deeper, along, member, summed s t k e)

-- a part lies within the whole

pub part_cells_fit : {s u : Shape} {path : List ℕ} → IsPart s path u → cells_before s path + cell_count u ≤ cell_count s
part_cells_fit part = part_fits cell_count cells_summed part

pub part_leaves_fit : {s u : Shape} {path : List ℕ} → IsPart s path u → leaves_before s path + leaf_count u ≤ leaf_count s
part_leaves_fit part = part_fits leaf_count leaves_summed part

-- a part of a part

pub part_of_part : {s t u : Shape} {path behind : List ℕ} → IsPart s path t → IsPart t behind u → IsPart s (path ++ behind) u
part_of_part here deeper = deeper
part_of_part (inside e part) deeper = inside e (part_of_part part deeper)

pub member_of_part : {s t u : Shape} {path : List ℕ} (k : ℕ) → IsPart s path t → slice_get (member_shapes t) k ≡ Some u → IsPart s (path ++ (k ∷ [])) u
member_of_part k part e = part_of_part part (inside e here)

pub cells_before_member : {s t : Shape} {path : List ℕ} → IsPart s path t → (k : ℕ) → cells_before s (path ++ (k ∷ [])) ≡ cells_before s path + offset (member_shapes t) k
cells_before_member part k = along_within offset part (k ∷ []) ∙ omega arith

pub leaves_before_member : {s t : Shape} {path : List ℕ} → IsPart s path t → (k : ℕ) → leaves_before s (path ++ (k ∷ [])) ≡ leaves_before s path + leaf_offset (member_shapes t) k
leaves_before_member part k = along_within leaf_offset part (k ∷ []) ∙ omega arith
