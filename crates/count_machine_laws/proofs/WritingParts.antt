-- A part of a value is written, by cells and by leaves; or the whole.
use Rattle.std.proofs.Common.{◌≡◌, ◌+◌, ◌++◌, ℕ, List, [], Some, true, length, refl, sym, ap, ◌∙◌, subst, arith}
use Rattle.std.proofs.lemmas.List.{append-nil, drop_all, length-replicate}
use Rattle.std.specs.Prelude.{replicate}
use Rattle.holder_model_values.specs.RunValues.Cells.{Cell, cell_count, in_cells}
use Rattle.holder_model_values.specs.RunValues.Leaves.{leaves_of}
use Rattle.holder_model_values.specs.RunValues.Memory.{put_cells}
use Rattle.holder_model_values.specs.RunValues.Shapes.{Shape}
use Rattle.holder_model_values.specs.RunValues.Values.{Value}
use Rattle.holder_model_values.specs.declared.run_values.leaf.Leaf.{Leaf}
use Rattle.holder_model_values.specs.ValueParts.inner.LeafLists.{spliced}
use Rattle.holder_model_values.specs.ValueParts.inner.Paths.{IsPart, cells_before, leaf_count, leaves_before, with_part_at}
use Rattle.holder_model_values.specs.ValueParts.inner.Suits.{ClassTest, suits}
use Rattle.holder_model_values.proofs.ValueParts.CellParts.{cells_written, suits_cells_length}
use Rattle.holder_model_values.proofs.ValueParts.LeafParts.{leaves_written, suits_leaves_length}
use Rattle.holder_model_values.proofs.ValueParts.Parts.{with_part_suits}
use Rattle.holder_model_values.proofs.ValueParts.Splices.{put_all}
use Rattle.count_machine_laws.proofs.Objects.{FieldHolds}

-- what stands there behind the write
pub record PartWritten (test : ClassTest) (s : Shape) (path : List ℕ) (u : Shape) (x : Value) (cells : List Cell) (leaves : List Leaf) : Type 0 where
  pub v : Value
  pub suit : suits test s v ≡ true
  pub by_cells : put_cells cells (cells_before s path) ((in_cells u).cells x) ≡ (in_cells s).cells v
  pub by_leaves : spliced leaves (leaves_before s path) (leaves_of u x) ≡ leaves_of s v

pub whole_shape : {s u : Shape} {path : List ℕ} → IsPart s path u → path ≡ [] → s ≡ u
whole_shape IsPart.here e = refl
whole_shape (IsPart.inside is part) e = absurd (cc)

-- the whole, where all its cells become the same
pub whole_same : {s u : Shape} {path : List ℕ} → IsPart s path u → path ≡ [] → (c : Cell) (cells : List Cell) → length cells ≡ cell_count s
    → put_cells cells (cells_before s path) (replicate (cell_count u) c) ≡ replicate (cell_count s) c
whole_same {s = s} IsPart.here e c cells count = put_all cells (replicate (cell_count s) c) (length-replicate (cell_count s) c ∙ sym count)
whole_same (IsPart.inside is part) e c cells count = absurd (cc)

module _ (test : ClassTest) where
  pub part_written : {s u : Shape} {path : List ℕ} → IsPart s path u → (v x : Value) → suits test s v ≡ true → suits test u x ≡ true
      → PartWritten test s path u x ((in_cells s).cells v) (leaves_of s v)
  part_written {path = path} part v x h good = record {
    v = with_part_at v path x;
    suit = with_part_suits test part v x h good;
    by_cells = cells_written test part v x h good;
    by_leaves = leaves_written test part v x h good;
  }

  spliced_all : (old new : List Leaf) → length new ≡ length old → spliced old 0 new ≡ new
  spliced_all old new e = ap (λ ls. new ++ ls) (drop_all (0 + length new) old (omega (arith, e))) ∙ append-nil new

  pub whole_written : {s u : Shape} {path : List ℕ} → IsPart s path u → path ≡ [] → (x : Value) → suits test u x ≡ true → (cells : List Cell) → length cells ≡ cell_count s
      → (leaves : List Leaf) → length leaves ≡ leaf_count s → PartWritten test s path u x cells leaves
  whole_written {s = s} IsPart.here e x good cells count leaves size = record {
    v = x;
    suit = good;
    by_cells = put_all cells ((in_cells s).cells x) (suits_cells_length test s x good ∙ sym count);
    by_leaves = spliced_all leaves (leaves_of s x) (suits_leaves_length test s x good ∙ sym size);
  }
  whole_written (IsPart.inside is part) e x good cells count leaves size = absurd (cc)

  -- a field that is written whole
  pub whole_held : {s u : Shape} {path : List ℕ} → IsPart s path u → path ≡ [] → (x : Value) → suits test u x ≡ true → (cells : List Cell) → length cells ≡ cell_count s
      → FieldHolds test s (put_cells cells (cells_before s path) ((in_cells u).cells x)) (Some (leaves_of u x))
  whole_held {s = s} IsPart.here e x good cells count =
      subst (λ cs. FieldHolds test s cs (Some (leaves_of s x))) (sym (put_all cells ((in_cells s).cells x) (suits_cells_length test s x good ∙ sym count))) (FieldHolds.written x good)
  whole_held (IsPart.inside is part) e x good cells count = absurd (cc)
