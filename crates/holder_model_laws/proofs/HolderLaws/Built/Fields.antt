-- The fields of an object lie side by side: each cell is in one, and two have none in common.
use Rattle.std.proofs.Common.{◌≡◌, ◌<◌, ◌≤◌, ◌+◌, ◌-◌, ⊎_elim, ℕ, zero, suc, List, [], ◌∷◌, map, sum, take, Some, false, true, refl, sym, ap, arith}
use Rattle.std.specs.Prelude.{slice_get}
use Rattle.std.proofs.lemmas.Bool.{cases_eq, cases_lt}
use Rattle.std.proofs.lemmas.List.Sums.{sum_by-cons}
use Rattle.std.proofs.lemmas.Option.{none-some, same_Some}
use Rattle.holder_model_laws.specs.HolderLaws.inner.Cells.Cells.{has_cell}
use Rattle.holder_model_laws.proofs.HolderLaws.Cells.PlaceCells.{cell_within, not_cell}
use Rattle.holder_model.specs.holder_model_values.RunValues.Cells.{cell_count}
use Rattle.holder_model.specs.holder_model_values.RunValues.Places.{field_in, offset}
use Rattle.holder_model.specs.holder_model_values.RunValues.Shapes.{Shape}
use Rattle.sil_ast.specs.declared.place.ObjectId.{ObjectId}

abbrev pub cells_of_all : List Shape → ℕ
cells_of_all ss = sum (map cell_count ss)

all_more : (s : Shape) (ss : List Shape) → cells_of_all (s ∷ ss) ≡ cell_count s + cells_of_all ss
all_more s ss = sum_by-cons (λ n. n) (cell_count s) (map cell_count ss)

offset_more : (s : Shape) (ss : List Shape) (k : ℕ) → offset (s ∷ ss) (suc k) ≡ cell_count s + offset ss k
offset_more s ss k = sum_by-cons (λ n. n) (cell_count s) (map cell_count (take k ss))

-- a field ends where the cells end, or before
pub field_inside : (ss : List Shape) (k : ℕ) (s : Shape) → slice_get ss k ≡ Some s → offset ss k + cell_count s ≤ cells_of_all ss
field_inside [] k s e = absurd (none-some s e)
field_inside (t ∷ ss) zero s e =
    let same : cell_count t ≡ cell_count s = ap cell_count (same_Some t s e) in
    let none : offset (t ∷ ss) 0 ≡ 0 = refl in
    omega (arith, same, none, all_more t ss)
field_inside (t ∷ ss) (suc k) s e = omega (arith, field_inside ss k s e, all_more t ss, offset_more t ss k)

-- of two fields the one ends before the other begins
pub fields_apart : (ss : List Shape) (j k : ℕ) (s t : Shape) → slice_get ss j ≡ Some s → slice_get ss k ≡ Some t → j < k → offset ss j + cell_count s ≤ offset ss k
fields_apart [] j k s t ej ek lt = absurd (none-some s ej)
fields_apart (u ∷ ss) zero zero s t ej ek lt = absurd (omega arith)
fields_apart (u ∷ ss) (suc j) zero s t ej ek lt = absurd (omega arith)
fields_apart (u ∷ ss) zero (suc k) s t ej ek lt =
    let same : cell_count u ≡ cell_count s = ap cell_count (same_Some u s ej) in
    let none : offset (u ∷ ss) 0 ≡ 0 = refl in
    omega (arith, same, none, offset_more u ss k)
fields_apart (u ∷ ss) (suc j) (suc k) s t ej ek lt =
    omega (arith, fields_apart ss j k s t ej ek (omega arith), offset_more u ss j, offset_more u ss k)

-- the field that a cell is in
pub record IsOfField (ss : List Shape) (n : ℕ) : Type 0 where
  pub field : ℕ
  pub shape : Shape
  pub there : slice_get ss field ≡ Some shape
  pub from : offset ss field ≤ n
  pub to : n < offset ss field + cell_count shape

pub field_of_cell : (ss : List Shape) (n : ℕ) → n < cells_of_all ss → IsOfField ss n
field_of_cell [] n lt = let none : cells_of_all [] ≡ 0 = refl in absurd (omega (arith, lt, none))
field_of_cell (s ∷ ss) n lt = ⊎_elim
    (λ (early : n < cell_count s).
    let none : offset (s ∷ ss) 0 ≡ 0 = refl in
    record { field = 0; shape = s; there = refl; from = omega (arith, none); to = omega (arith, early, none) })
    (λ (late : cell_count s ≤ n).
    let r = field_of_cell ss (n - cell_count s) (omega (arith, lt, late, all_more s ss)) in
    record {
      field = suc r.field;
      shape = r.shape;
      there = r.there;
      from = omega (arith, r.from, late, offset_more s ss r.field);
      to = omega (arith, r.to, late, offset_more s ss r.field);
    })
    (cases_lt n (cell_count s))

-- a cell of one field is none of another
pub not_of_other : (o : ObjectId) (ss : List Shape) (j k : ℕ) (s t : Shape) → slice_get ss j ≡ Some s → slice_get ss k ≡ Some t → (j ≡ k → ⊥) → (n : ℕ)
    → has_cell (field_in o ss j s) n ≡ true → has_cell (field_in o ss k t) n ≡ false
not_of_other o ss j k s t ej ek differ n has = not_cell (field_in o ss k t) n (λ other.
    let w = cell_within (field_in o ss j s) n has in
    let u = cell_within (field_in o ss k t) n other in
    let w0 = w.0 in
    let w1 = w.1 in
    let u0 = u.0 in
    let u1 = u.1 in
    ⊎_elim
    (λ (lt : j < k). let clear = fields_apart ss j k s t ej ek lt in absurd (omega (arith, clear, w1, u0)))
    (λ (le : k ≤ j).
    let lt : k < j = before k j le (λ e. differ (sym e)) in
    let clear = fields_apart ss k j t s ek ej lt in
    absurd (omega (arith, clear, u1, w0)))
    (cases_lt j k))
  where
    before : (k j : ℕ) → k ≤ j → (k ≡ j → ⊥) → k < j
    before k j le not_so = ⊎_elim (λ (e : k ≡ j). absurd (not_so e)) (λ (no_eq : k ≡ j → ⊥). omega (arith, le, no_eq)) (cases_eq k j)
