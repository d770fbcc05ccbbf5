-- The cells of a part among those of a value: they are read, and others take their place.
use Rattle.std.proofs.Common.{◌≡◌, ◌≤◌, ◌-◌, ℕ, List, Some, true, length, take, drop, replicate, sym, ap, ◌∙◌, arith}
use Rattle.std.proofs.lemmas.List.{drop-replicate, take-replicate}
use Rattle.holder_model_values.specs.RunValues.Cells.{Cell, cell_count, in_cells}
use Rattle.holder_model_values.specs.RunValues.Memory.{put_cells}
use Rattle.holder_model_values.specs.RunValues.Shapes.{Shape}
use Rattle.holder_model_values.specs.RunValues.Values.{Value}
use Rattle.holder_model_values.specs.ValueParts.inner.Paths.{IsPart, cells_before, part_at, with_part_at}
use Rattle.holder_model_values.specs.ValueParts.inner.Suits.{ClassTest, suits}
use Rattle.holder_model_values.proofs.ValueParts.Cells.{cells_length}
use Rattle.holder_model_values.proofs.ValueParts.Frames.{Frame, part_frame}
use Rattle.holder_model_values.proofs.ValueParts.Parts.{has_part, part_suits, with_same_part}
use Rattle.holder_model_values.proofs.ValueParts.Paths.{part_cells_fit}
use Rattle.holder_model_values.proofs.ValueParts.SideBySide.{cells_laid, cells_of}
use Rattle.holder_model_values.proofs.ValueParts.Splices.{put_middle, read_middle}
use Rattle.holder_model_values.proofs.ValueParts.Suiting.{suits_fits}

module _ (test : ClassTest) where
  pub suits_cells_length : (s : Shape) (v : Value) → suits test s v ≡ true → length ((in_cells s).cells v) ≡ cell_count s
  suits_cells_length s v h = cells_length s v (suits_fits test s v h)

  frame : {s u : Shape} {path : List ℕ} → IsPart s path u → (v : Value) → suits test s v ≡ true → Frame cells_of (cells_before s path) u (λ x. cells_of s (with_part_at v path x))
  frame = part_frame cells_of cell_count test suits_cells_length cells_laid

  pub cells_read : {s u : Shape} {path : List ℕ} → IsPart s path u → (v w : Value) → suits test s v ≡ true → part_at v path ≡ Some w
      → take (cell_count u) (drop (cells_before s path) ((in_cells s).cells v)) ≡ (in_cells u).cells w
  cells_read {s = s} {u = u} {path = path} part v w h is =
      let around = frame part v h in
      let mine = suits_cells_length u w (part_suits test part v w h is) in
      ap (λ x. take (cell_count u) (drop (cells_before s path) (cells_of s x))) (sym (with_same_part path v w is))
      ∙ ap (λ cs. take (cell_count u) (drop (cells_before s path) cs)) (around.splits w)
      ∙ read_middle around.before (cells_of u w) around.behind (cells_before s path) (cell_count u) around.count mine

  pub cells_written : {s u : Shape} {path : List ℕ} → IsPart s path u → (v w : Value) → suits test s v ≡ true → suits test u w ≡ true
      → put_cells ((in_cells s).cells v) (cells_before s path) ((in_cells u).cells w) ≡ (in_cells s).cells (with_part_at v path w)
  cells_written {s = s} {u = u} {path = path} part v w h good =
      let around = frame part v h in
      let old = has_part test part v h in
      let same : length (cells_of u w) ≡ length (cells_of u old.0) = suits_cells_length u w good ∙ sym (suits_cells_length u old.0 old.2) in
      ap (λ x. put_cells (cells_of s x) (cells_before s path) (cells_of u w)) (sym (with_same_part path v old.0 old.1))
      ∙ ap (λ cs. put_cells cs (cells_before s path) (cells_of u w)) (around.splits old.0)
      ∙ put_middle around.before (cells_of u old.0) around.behind (cells_of u w) (cells_before s path) around.count same
      ∙ sym (around.splits w)

-- a part of a place whose cells are all the same
pub same_cells_read : {s u : Shape} {path : List ℕ} → IsPart s path u → (c : Cell) → take (cell_count u) (drop (cells_before s path) (replicate (cell_count s) c)) ≡ replicate (cell_count u) c
same_cells_read {s = s} {u = u} {path = path} part c =
    let bound = part_cells_fit part in
    let room : cell_count u ≤ cell_count s - cells_before s path = omega (arith, bound) in
    ap (take (cell_count u)) (drop-replicate (cells_before s path) (cell_count s) c) ∙ take-replicate (cell_count u) (cell_count s - cells_before s path) c room
