-- The cells of a place by their numbers in its home.
use Rattle.std.proofs.Common.{◌≡◌, ◌<◌, ◌≤◌, ◌+◌, ◌-◌, ◌⊎◌, ⊎_elim, inl, inr, ℕ, drop, slice_get, nat_le, nat_lt, Option}
use Rattle.std.proofs.Common.{Some, Bool, true, false, sym, ap, ◌∙◌, subst, arith, leb-true, leb-false, ltb-true, ltb-false, le-leb, lt-ltb}
use Rattle.std.specs.List.{list_all}
use Rattle.std.proofs.lemmas.Bool.{and_cases, and_from, and_parts, false_from_ne_true}
use Rattle.std.proofs.lemmas.Option.{same_Some}
use Rattle.holder_model.specs.holder_model_values.RunValues.Cells.{Cell, Empty, Keeps, cell_count}
use Rattle.holder_model.specs.holder_model_values.RunValues.Memory.{Memory}
use Rattle.holder_model.specs.holder_model_values.RunValues.Places.{Place, cells_at, home_cells, is_empty_at, is_empty_cell, is_there, is_there_at, value_at}
use Rattle.holder_model.specs.holder_model_values.RunValues.Values.{Value}
use Rattle.holder_model_laws.specs.HolderLaws.inner.Cells.Cells.{AreCells, IsCell, IsFullCell, IsInside, IsPlace, behind, cell_at, has_cell}
use Rattle.holder_model_laws.proofs.HolderLaws.Cells.Kept.{full_is_kept, kept_is_full}
use Rattle.holder_model_laws.proofs.HolderLaws.Cells.Lists.{all_from, element, get_drop, get_take, taken_early}

-- ---- numbers

pub cell_within : (p : Place) (n : ℕ) → has_cell p n ≡ true → (p.first ≤ n) × (n < behind p)
cell_within p n h =
    let parts = and_parts (nat_le p.first n) (nat_lt n (behind p)) h in
    (leb-true p.first n parts.0, ltb-true n (behind p) parts.1)

pub cell_from : (p : Place) (n : ℕ) → p.first ≤ n → n < behind p → has_cell p n ≡ true
cell_from p n le lt = and_from (nat_le p.first n) (nat_lt n (behind p)) (le-leb p.first n le) (lt-ltb n (behind p) lt)

pub cell_number : (p : Place) (k : ℕ) → k < cell_count p.shape → has_cell p (p.first + k) ≡ true
cell_number p k lt = cell_from p (p.first + k) (omega arith) (omega (arith, lt))

pub cell_outside : (p : Place) (n : ℕ) → has_cell p n ≡ false → (n < p.first) ⊎ (behind p ≤ n)
cell_outside p n h = ⊎_elim
    (λ e. inl (leb-false p.first n e))
    (λ e. inr (ltb-false n (behind p) e))
    (and_cases (nat_le p.first n) (nat_lt n (behind p)) h)

-- a cell of the place, from its first one on
pub record IsAt (p : Place) (n : ℕ) : Type 0 where
  pub offset : ℕ
  pub within : offset < cell_count p.shape
  pub is : p.first + offset ≡ n

pub offset_of : (p : Place) (n : ℕ) → has_cell p n ≡ true → IsAt p n
offset_of p n h =
    let w = cell_within p n h in
    let le = w.0 in
    let lt = w.1 in
    record { offset = n - p.first; within = omega (arith, le, lt); is = omega (arith, le) }

pub not_cell : (p : Place) (n : ℕ) → (has_cell p n ≡ true → ⊥) → has_cell p n ≡ false
not_cell p n = false_from_ne_true (has_cell p n)

-- ---- cells

pub get_cell : (m : Memory) (p : Place) (k : ℕ) → k < cell_count p.shape → slice_get (cells_at m p) k ≡ cell_at m p.home (p.first + k)
get_cell m p k lt = get_take (cell_count p.shape) (drop p.first (home_cells m p.home)) k lt ∙ get_drop p.first (home_cells m p.home) k

-- each cell of the place, by how far it is from the first
pub each_cell : (Is : Option Cell → Type 0) (m : Memory) (p : Place) → ((k : ℕ) → k < cell_count p.shape → Is (cell_at m p.home (p.first + k))) → AreCells Is m p
each_cell Is m p h n has = let at = offset_of p n has in subst (λ k. Is (cell_at m p.home k)) at.is (h at.offset at.within)

-- ---- full

pub full_cells : (m : Memory) (p : Place) (x : Value) → value_at m p ≡ Some x → IsPlace true m p
full_cells m p x e = each_cell IsFullCell m p (λ k lt. subst IsFullCell (get_cell m p k lt) (kept_is_full p.shape (cells_at m p) x e k lt))

pub full_value : (m : Memory) (p : Place) → IsPlace true m p → (x : Value) × (value_at m p ≡ Some x)
full_value m p h = full_is_kept p.shape (cells_at m p) (λ k lt. subst IsFullCell (sym (get_cell m p k lt)) (h (p.first + k) (cell_number p k lt)))

-- ---- empty, and there

-- of a place that is inside, each cell is there
pub there_cell : (m : Memory) (p : Place) → IsInside m p → (k : ℕ) → k < cell_count p.shape → (c : Cell) × (slice_get (cells_at m p) k ≡ Some c)
there_cell m p inside k lt =
    let found = element (home_cells m p.home) (p.first + k) (omega (arith, inside, lt)) in
    (found.0, get_cell m p k lt ∙ found.1)

-- a test of the cells of a place, by each of them
pub tested : (test : Cell → Bool) (m : Memory) (p : Place)
    → ((n : ℕ) (c : Cell) → has_cell p n ≡ true → cell_at m p.home n ≡ Some c → test c ≡ true) → list_all test (cells_at m p) ≡ true
tested test m p h = all_from test (cells_at m p) (λ k c e.
    let lt = taken_early (cell_count p.shape) (drop p.first (home_cells m p.home)) k c e in
    h (p.first + k) c (cell_number p k lt) (sym (get_cell m p k lt) ∙ e))

pub empty_test : (m : Memory) (p : Place) → IsPlace false m p → is_empty_at m p ≡ true
empty_test m p h = tested is_empty_cell m p (λ n c has e. ap is_empty_cell (same_Some c Empty (sym e ∙ h n has)))

there_by_cell : (on : Bool) (c : Cell) → IsCell on (Some c) → is_there c ≡ true
there_by_cell true c h = ap is_there (same_Some c (Keeps h.0 h.1) h.2)
there_by_cell false c h = ap is_there (same_Some c Empty h)

pub there_test : (m : Memory) (p : Place) (on : Bool) → IsPlace on m p → is_there_at m p ≡ true
there_test m p on h = tested is_there m p (λ n c has e. there_by_cell on c (subst (IsCell on) e (h n has)))
