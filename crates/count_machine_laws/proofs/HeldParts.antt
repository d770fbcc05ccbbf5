-- Parts of what a slot or a field has: what the run reads of cells, and the machine of leaves.
use Rattle.std.proofs.Common.{◌≡◌, ◌≤◌, ◌<◌, ◌+◌, ◌-◌, ℕ, zero, suc, List, Some, None, true, false, take, drop, refl, sym, ap, ◌∙◌, arith}
use Rattle.std.specs.Prelude.{replicate}
use Rattle.std.specs.List.{list_all}
use Rattle.std.proofs.lemmas.List.{drop-drop, drop-take, take-take}
use Rattle.holder_model_values.specs.RunValues.Cells.{Empty, Gone, cell_count, in_cells}
use Rattle.holder_model_values.specs.RunValues.Leaves.{leaves_of}
use Rattle.holder_model_values.specs.RunValues.Places.{Place, cells_at, is_there, is_there_at, value_at}
use Rattle.holder_model_values.specs.RunValues.Memory.{Memory}
use Rattle.holder_model_values.specs.RunValues.Shapes.{Shape}
use Rattle.holder_model_values.specs.RunValues.Values.{Value}
use Rattle.holder_model_values.specs.ValueParts.inner.Paths.{IsPart, cells_before, leaf_count, leaves_before, part_at}
use Rattle.holder_model_values.specs.ValueParts.inner.Suits.{ClassTest, suits}
use Rattle.holder_model_values.proofs.ValueParts.CellParts.{cells_read}
use Rattle.holder_model_values.proofs.ValueParts.Cells.{cells_back, cells_there, empty_is_none, has_cell}
use Rattle.holder_model_values.proofs.ValueParts.LeafParts.{leaves_read}
use Rattle.holder_model_values.proofs.ValueParts.Parts.{has_part}
use Rattle.holder_model_values.proofs.ValueParts.Suiting.{suits_fits}

all_there : (n : ℕ) → list_all is_there (replicate n Empty) ≡ true
all_there zero = refl
all_there (suc n) = all_there n

none_there : (n : ℕ) → 0 < n → list_all is_there (replicate n Gone) ≡ false
none_there zero more = absurd (omega arith)
none_there (suc n) more = refl

-- what is told of a place by its cells
module _ (mem : Memory) (p : Place) where
  pub gone_read : cells_at mem p ≡ replicate (cell_count p.shape) Gone → is_there_at mem p ≡ false
  gone_read e = ap (list_all is_there) e ∙ none_there (cell_count p.shape) (has_cell p.shape)

  pub empty_there : cells_at mem p ≡ replicate (cell_count p.shape) Empty → is_there_at mem p ≡ true
  empty_there e = ap (list_all is_there) e ∙ all_there (cell_count p.shape)

  pub empty_read : cells_at mem p ≡ replicate (cell_count p.shape) Empty → value_at mem p ≡ None
  empty_read e = ap (in_cells p.shape).value e ∙ empty_is_none p.shape

  pub full_there : (x : Value) → cells_at mem p ≡ (in_cells p.shape).cells x → is_there_at mem p ≡ true
  full_there x e = ap (list_all is_there) e ∙ cells_there p.shape x

  pub full_read : (test : ClassTest) (x : Value) → suits test p.shape x ≡ true → cells_at mem p ≡ (in_cells p.shape).cells x → value_at mem p ≡ Some x
  full_read test x h e = ap (in_cells p.shape).value e ∙ cells_back p.shape x (suits_fits test p.shape x h)

-- a part of a value, by its cells and by its leaves
pub record PartRead (test : ClassTest) (s : Shape) (path : List ℕ) (u : Shape) (v : Value) : Type 0 where
  pub x : Value
  pub at : part_at v path ≡ Some x
  pub suit : suits test u x ≡ true
  pub by_cells : take (cell_count u) (drop (cells_before s path) ((in_cells s).cells v)) ≡ (in_cells u).cells x
  pub by_leaves : take (leaf_count u) (drop (leaves_before s path) (leaves_of s v)) ≡ leaves_of u x

pub part_read : (test : ClassTest) {s u : Shape} {path : List ℕ} → IsPart s path u → (v : Value) → suits test s v ≡ true → PartRead test s path u v
part_read test part v h =
    let found = has_part test part v h in
    record { x = found.0; at = found.1; suit = found.2; by_cells = cells_read test part v found.0 h found.1; by_leaves = leaves_read test part v found.0 h found.1 }

-- so many of a list from a place on, among those of a longer stretch
pub take_within : {A : Type 0} (xs : List A) (from size at n : ℕ) → at + n ≤ size → take n (drop (from + at) xs) ≡ take n (drop at (take size (drop from xs)))
take_within xs from size at n le =
    let more : n ≤ size - at = omega arith in
    let whole : at + (size - at) ≡ size = omega arith in
    ap (take n) (sym (drop-drop at from xs)) ∙ sym (take-take n (size - at) (drop at (drop from xs)) more)
    ∙ ap (take n) (sym (drop-take at (size - at) (drop from xs)))
    ∙ ap (λ k. take n (drop at (take k (drop from xs)))) whole
