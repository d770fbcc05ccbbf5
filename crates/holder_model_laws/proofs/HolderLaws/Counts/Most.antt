-- Bounds on what memory holds, whatever place is written; and phases stay where cells are put.
use Rattle.std.proofs.Common.{◌≡◌, ℕ, zero, suc, ◌+◌, ◌≤◌, List, [], ◌∷◌, ◌++◌, set, length, take, drop, replicate, refl, ap, ◌∙◌, Bool, true, false, cond, arith}
use Rattle.std.specs.Prelude.{slice_get, unwrap_or}
use Rattle.std.proofs.lemmas.Bool.{true≢false}
use Rattle.sil_ast.specs.declared.decl.Storage.{Storage}
use Rattle.sil_ast.specs.declared.place.ObjectId.{ObjectId}
use Rattle.holder_model.specs.holder_model_values.RunValues.Cells.{Cell, Empty, Gone, cell_count}
use Rattle.holder_model.specs.holder_model_values.RunValues.Memory.{Memory, Object, is_dead_phase, no_object, object_at, phase_of, put_cells}
use Rattle.holder_model.specs.holder_model_values.RunValues.Places.{Home, Inside, OnStack, Place, cells_at, emptied, home_cells, removed, with_cells, with_home_cells}
use Rattle.holder_model.specs.Holders.{in_cell, in_cells, in_memory, in_object}
use Rattle.holder_model_laws.specs.HolderLaws.inner.Counts.Keeping.{IsAliveAt}
use Rattle.holder_model_laws.proofs.HolderLaws.Counts.Sums.{total, total_cons, total_cut, total_none}

-- what one element holds is no more than what all do
pub at_most : {A : Type 0} (g : A → ℕ) (xs : List A) (k : ℕ) (d : A) → g d ≡ 0 → g (unwrap_or (slice_get xs k) d) ≤ total g xs
at_most g [] k d e = omega (arith, e)
at_most g (x ∷ xs) zero d e = let whole : total g (x ∷ xs) ≡ g x + total g xs = total_cons g x xs in omega (arith, whole)
at_most g (x ∷ xs) (suc k) d e =
    let whole : total g (x ∷ xs) ≡ g x + total g xs = total_cons g x xs in
    let rest : g (unwrap_or (slice_get xs k) d) ≤ total g xs = at_most g xs k d e in
    omega (arith, whole, rest)

pub put_most : (g : Cell → ℕ) (kept : List Cell) (i : ℕ) (new : List Cell) → total g (put_cells kept i new) ≤ total g kept + total g new
put_most g kept zero [] = omega arith
put_most g kept (suc i) [] = omega arith
put_most g [] zero (c ∷ cs) = omega arith
put_most g [] (suc i) (c ∷ cs) = omega arith
put_most g (old ∷ kept) zero (c ∷ cs) =
    let put : total g (c ∷ put_cells kept zero cs) ≡ g c + total g (put_cells kept zero cs) = total_cons g c (put_cells kept zero cs) in
    let before : total g (old ∷ kept) ≡ g old + total g kept = total_cons g old kept in
    let new : total g (c ∷ cs) ≡ g c + total g cs = total_cons g c cs in
    let rest : total g (put_cells kept zero cs) ≤ total g kept + total g cs = put_most g kept zero cs in
    omega (arith, put, before, new, rest)
put_most g (old ∷ kept) (suc i) (c ∷ cs) =
    let put : total g (old ∷ put_cells kept i (c ∷ cs)) ≡ g old + total g (put_cells kept i (c ∷ cs)) = total_cons g old (put_cells kept i (c ∷ cs)) in
    let before : total g (old ∷ kept) ≡ g old + total g kept = total_cons g old kept in
    let rest : total g (put_cells kept i (c ∷ cs)) ≤ total g kept + total g (c ∷ cs) = put_most g kept i (c ∷ cs) in
    omega (arith, put, before, rest)

pub set_most : {A : Type 0} (g : A → ℕ) (xs : List A) (n : ℕ) (x d : A) (k : ℕ) → g x ≤ g (unwrap_or (slice_get xs n) d) + k → total g (set xs n x) ≤ total g xs + k
set_most g [] n x d k le = omega arith
set_most g (y ∷ xs) zero x d k le =
    let new : total g (x ∷ xs) ≡ g x + total g xs = total_cons g x xs in
    let old : total g (y ∷ xs) ≡ g y + total g xs = total_cons g y xs in
    omega (arith, new, old, le)
set_most g (y ∷ xs) (suc n) x d k le =
    let new : total g (y ∷ set xs n x) ≡ g y + total g (set xs n x) = total_cons g y (set xs n x) in
    let old : total g (y ∷ xs) ≡ g y + total g xs = total_cons g y xs in
    let rest : total g (set xs n x) ≤ total g xs + k = set_most g xs n x d k le in
    omega (arith, new, old, rest)

module _ (weight : ObjectId → ℕ) (how : Storage) where
  object_most : (x : Object) (i : ℕ) (new : List Cell) → in_object weight how (record x { cells = put_cells x.cells i new }) ≤ in_object weight how x + in_cells weight how new
  object_most x i new = at (is_dead_phase x.phase)
    where
      put : in_cells weight how (put_cells x.cells i new) ≤ in_cells weight how x.cells + in_cells weight how new
      put = put_most (in_cell weight how) x.cells i new

      at : (b : Bool) → cond b 0 (in_cells weight how (put_cells x.cells i new)) ≤ cond b 0 (in_cells weight how x.cells) + in_cells weight how new
      at true = omega arith
      at false = put

  home_most : (m : Memory) (home : Home) (i : ℕ) (new : List Cell)
      → in_memory weight how (with_home_cells m home (put_cells (home_cells m home) i new)) ≤ in_memory weight how m + in_cells weight how new
  home_most m OnStack i new =
      let put : in_cells weight how (put_cells m.stack i new) ≤ in_cells weight how m.stack + in_cells weight how new = put_most (in_cell weight how) m.stack i new in
      omega (arith, put)
  home_most m (Inside o) i new =
      let x : Object = record (object_at m o) { cells = put_cells (object_at m o).cells i new } in
      let one : in_object weight how x ≤ in_object weight how (object_at m o) + in_cells weight how new = object_most (object_at m o) i new in
      let all : total (in_object weight how) (set m.objects o.0 x) ≤ total (in_object weight how) m.objects + in_cells weight how new =
      set_most (in_object weight how) m.objects o.0 x no_object (in_cells weight how new) one in
      omega (arith, all)

  -- memory holds no more than it did and what is put there
  pub place_most : (m : Memory) (p : Place) (new : List Cell) → in_memory weight how (with_cells m p new) ≤ in_memory weight how m + in_cells weight how new
  place_most m p new = home_most m p.home p.first new

  pub emptied_most : (m : Memory) (p : Place) → in_memory weight how (emptied m p) ≤ in_memory weight how m
  emptied_most m p =
      let most = place_most m p (replicate (cell_count p.shape) Empty) in
      let none : in_cells weight how (replicate (cell_count p.shape) Empty) ≡ 0 = total_none (in_cell weight how) (cell_count p.shape) Empty refl in
      omega (arith, most, none)

  pub removed_most : (m : Memory) (p : Place) → in_memory weight how (removed m p) ≤ in_memory weight how m
  removed_most m p =
      let most = place_most m p (replicate (cell_count p.shape) Gone) in
      let none : in_cells weight how (replicate (cell_count p.shape) Gone) ≡ 0 = total_none (in_cell weight how) (cell_count p.shape) Gone refl in
      omega (arith, most, none)

  home_cells_most : (m : Memory) (home : Home) → IsAliveAt m home → in_cells weight how (home_cells m home) ≤ in_memory weight how m
  home_cells_most m OnStack alive = omega arith
  home_cells_most m (Inside o) alive =
      let object : in_object weight how (object_at m o) ≤ total (in_object weight how) m.objects = at_most (in_object weight how) m.objects o.0 no_object refl in
      let same : in_object weight how (object_at m o) ≡ in_cells weight how (object_at m o).cells = ap (λ b. cond b 0 (in_cells weight how (object_at m o).cells)) alive in
      omega (arith, object, same)

  -- a place holds no more than memory
  pub at_place_most : (m : Memory) (p : Place) → IsAliveAt m p.home → in_cells weight how (cells_at m p) ≤ in_memory weight how m
  at_place_most m p alive =
      let all = home_cells_most m p.home alive in
      let first : in_cells weight how (take p.first (home_cells m p.home)) + in_cells weight how (drop p.first (home_cells m p.home)) ≡ in_cells weight how (home_cells m p.home) =
      total_cut (in_cell weight how) (home_cells m p.home) p.first in
      let rest : in_cells weight how (cells_at m p) + in_cells weight how (drop (cell_count p.shape) (drop p.first (home_cells m p.home)))
      ≡ in_cells weight how (drop p.first (home_cells m p.home)) =
      total_cut (in_cell weight how) (drop p.first (home_cells m p.home)) (cell_count p.shape) in
      omega (arith, all, first, rest)

-- ---- phases

set_phase : (objects : List Object) (n k : ℕ) (x : Object) → x.phase ≡ (unwrap_or (slice_get objects n) no_object).phase
    → (unwrap_or (slice_get (set objects n x) k) no_object).phase ≡ (unwrap_or (slice_get objects k) no_object).phase
set_phase [] n k x e = refl
set_phase (y ∷ ys) zero zero x e = e
set_phase (y ∷ ys) zero (suc k) x e = refl
set_phase (y ∷ ys) (suc n) zero x e = refl
set_phase (y ∷ ys) (suc n) (suc k) x e = set_phase ys n k x e

home_phases : (m : Memory) (home : Home) (new : List Cell) (o : ObjectId) → phase_of (with_home_cells m home new) o ≡ phase_of m o
home_phases m OnStack new o = refl
home_phases m (Inside p) new o = set_phase m.objects p.0 o.0 (record (object_at m p) { cells = new }) refl

-- phases stay where cells are put
pub place_phases : (m : Memory) (p : Place) (new : List Cell) (o : ObjectId) → phase_of (with_cells m p new) o ≡ phase_of m o
place_phases m p new o = home_phases m p.home (put_cells (home_cells m p.home) p.first new) o

-- ---- new objects

pub new_there : (xs : List Object) (x : Object) → unwrap_or (slice_get (xs ++ x ∷ []) (length xs)) no_object ≡ x
new_there [] x = refl
new_there (y ∷ ys) x = new_there ys x

-- an object is dead only if it was, or isn't made yet
pub dead_before_new : (xs : List Object) (x : Object) (k : ℕ) → is_dead_phase (unwrap_or (slice_get (xs ++ x ∷ []) k) no_object).phase ≡ true
    → is_dead_phase (unwrap_or (slice_get xs k) no_object).phase ≡ true
dead_before_new [] x k h = refl
dead_before_new (y ∷ ys) x zero h = h
dead_before_new (y ∷ ys) x (suc k) h = dead_before_new ys x k h
