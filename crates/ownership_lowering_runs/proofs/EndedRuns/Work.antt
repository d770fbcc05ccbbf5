-- How much is left of a run: a number that falls with each step but a drop, and the references that wait, which get fewer with each drop.
use Rattle.std.proofs.Common.{◌≡◌, ◌⊎◌, inl, inr, ℕ, zero, suc, ◌+◌, ◌-◌, ◌*◌, ◌<◌, ◌≤◌, arith, refl, sym, ap, ◌∙◌, subst, max, suc-mul}
use Rattle.std.proofs.Common.{List, [], ◌∷◌, Option, Some, None, length, slice_get}
use Rattle.sil_ast.specs.declared.function.Block.{Block}
use Rattle.sil_ast.specs.declared.function.Function.{Function}
use Rattle.sil_ast.specs.declared.inst.Inst.{Inst}
use Rattle.sil_ast.specs.declared.module.Module.{Module}
use Rattle.sil_ast.specs.declared.place.FuncId.{FuncId}
use Rattle.sil_ast.specs.declared.place.ObjectId.{ObjectId}
use Rattle.sil_ast.specs.declared.place.PointId.{PointId}
use Rattle.sil_cfg_items.specs.Parts.{inst_at}
use Rattle.sil_verifier_runs.specs.holder_model.Standing.{point_behind}
use Rattle.sil_verifier_runs.specs.holder_model.States.{Drops, Finishes, Runs, State, Task, dropping}
use Rattle.ownership_lowering_runs.specs.StoredRuns.inner.Points.{insts_of}
use Rattle.ownership_lowering_runs.specs.SameRuns.inner.Followed.{left_from}
use Rattle.ownership_lowering_runs.proofs.SameRuns.RowsFollowed.{less_from}

-- ---- how many instructions the longest block has

abbrev pub longest_of : List Block → ℕ
longest_of [] = 0
longest_of (b ∷ bs) = max (length b.insts) (longest_of bs)

abbrev pub longest_in : List Function → ℕ
longest_in [] = 0
longest_in (f ∷ fs) = max (longest_of f.blocks) (longest_in fs)

abbrev pub longest : Module → ℕ
longest m = longest_in m.functions

in_blocks : (bs : List Block) (i : ℕ) → length (insts_of (slice_get bs i)) ≤ longest_of bs
in_blocks [] i = omega arith
in_blocks (b ∷ bs) zero = omega arith
in_blocks (b ∷ bs) (suc i) = omega (arith, in_blocks bs i)

in_functions : (fs : List Function) (g : ℕ) (f : Function) → slice_get fs g ≡ Some f → longest_of f.blocks ≤ longest_in fs
in_functions [] g f e = cc
in_functions (x ∷ fs) zero f e = let same : longest_of x.blocks ≡ longest_of f.blocks = cc in omega arith
in_functions (x ∷ fs) (suc g) f e = omega (arith, in_functions fs g f e)

-- ---- what is left of the block in which a frame of a function stands

abbrev pub left_at : Option Function → PointId → ℕ
left_at None p = 0
left_at (Some f) p = left_from f p

pub left_at-most : (m : Module) (g : FuncId) (p : PointId) → left_at (slice_get m.functions g.0) p ≤ longest m
left_at-most m g p = at (slice_get m.functions g.0) refl
  where
    at : (o : Option Function) → slice_get m.functions g.0 ≡ o → left_at o p ≤ longest m
    at None e = omega arith
    at (Some f) e = let a = in_functions m.functions g.0 f e in let b = in_blocks f.blocks p.block.0 in omega (arith, a, b)

-- behind an instruction there is less, and behind any point no more
pub less_behind : (o : Option Function) (f : Function) (p : PointId) (i : Inst) → o ≡ Some f → inst_at f p ≡ Some i → left_at o (point_behind p) < left_at o p
less_behind o f p i there here = subst (λ x. left_at x (point_behind p) < left_at x p) (sym there) (less_from f p i here)

pub no_more_behind : (o : Option Function) (p : PointId) → left_at o (point_behind p) ≤ left_at o p
no_more_behind None p = omega arith
no_more_behind (Some f) p = omega arith

-- ---- what is left of all tasks

module _ {F : Type 0} (left : F → ℕ) where
  -- of a frame its block and its return, of a deinitialisation its finish. Each call of a deinitialiser is a turn
  abbrev pub left_of : Task F → ℕ
  left_of (Runs frame) = left frame + 1
  left_of (Drops references) = 0
  left_of (Finishes deinits o) = 1

  abbrev pub left_in : List (Task F) → ℕ
  left_in [] = 0
  left_in (t ∷ ts) = left_of t + left_in ts

  pub left_in-dropping : (os : List ObjectId) (ts : List (Task F)) → left_in (dropping os ts) ≡ left_in ts
  left_in-dropping [] ts = refl
  left_in-dropping (o ∷ os) ts = omega arith

-- the references that wait, and the tasks that drop them
abbrev pub waiting : {F : Type 0} → List (Task F) → ℕ
waiting [] = 0
waiting (Runs frame ∷ rest) = waiting rest
waiting (Drops references ∷ rest) = (length references + 1) + waiting rest
waiting (Finishes deinits o ∷ rest) = waiting rest

-- ---- what a step leaves

-- each turn may bring a frame, or a block to one, of which less is left than a turn is worth
abbrev pub work : {F N : Type 0} → (F → ℕ) → ℕ → ℕ → State F N → ℕ
work left most bound s = (bound - s.turns) * (most + 2) + left_in left s.tasks

-- less than this is left in the same turn; or the next one has begun, which brought no more than a frame with a longest block
abbrev pub IsLess : {F N : Type 0} → (F → ℕ) → ℕ → ℕ → ℕ → ℕ → State F N → Type 0
IsLess left most bound turns before t =
    ((t.turns ≡ turns) × (left_in left t.tasks < before)) ⊎ ((turns < bound) × (t.turns ≡ turns + 1) × (left_in left t.tasks ≤ before + (most + 1)))

-- in the same turn no more is left, and fewer references wait
abbrev pub IsDrop : {F N : Type 0} → (F → ℕ) → State F N → State F N → Type 0
IsDrop left s t = (t.turns ≡ s.turns) × (left_in left t.tasks ≤ left_in left s.tasks) × (waiting t.tasks < waiting s.tasks)

abbrev pub LeavesLess : {F N : Type 0} → (F → ℕ) → ℕ → ℕ → State F N → State F N → Type 0
LeavesLess left most bound s t = IsLess left most bound s.turns (left_in left s.tasks) t ⊎ IsDrop left s t

less_turned : (d k a b x : ℕ) → x ≡ d * k + k → a < b + k → d * k + a < x + b
less_turned d k a b x e h = omega (arith, e, h)

turned : (bound n k : ℕ) → n < bound → (bound - n) * k ≡ (bound - (n + 1)) * k + k
turned bound n k h =
    let d = bound - (n + 1) in
    let e : bound - n ≡ suc d = omega (arith, h) in
    ap (λ x. x * k) e ∙ suc-mul d k

module _ {F N : Type 0} (left : F → ℕ) (most bound : ℕ) where
  less_work : (s t : State F N) → IsLess left most bound s.turns (left_in left s.tasks) t → work left most bound t < work left most bound s
  less_work s t (inl h) = let less = h.1 in rw h.0 (omega (arith, less))
  less_work s t (inr h) =
      let more = h.2 in
      rw h.1
      (less_turned (bound - (s.turns + 1)) (most + 2) (left_in left t.tasks) (left_in left s.tasks) ((bound - s.turns) * (most + 2))
      (turned bound s.turns (most + 2) h.0) (omega (arith, more)))

  -- the work falls, or fewer references wait
  pub less_left : (s t : State F N) → LeavesLess left most bound s t
      → (work left most bound t < work left most bound s) ⊎ ((work left most bound t ≤ work left most bound s) × (waiting t.tasks < waiting s.tasks))
  less_left s t (inl h) = inl (less_work s t h)
  less_left s t (inr h) = let less = h.1 in inr (rw h.0 (omega (arith, less)), h.2)

  -- no turn is taken back
  pub turns_on : (s t : State F N) → LeavesLess left most bound s t → s.turns ≤ t.turns
  turns_on s t (inl (inl h)) = let same = h.0 in omega (arith, same)
  turns_on s t (inl (inr h)) = let next = h.1 in omega (arith, next)
  turns_on s t (inr h) = let same = h.0 in omega (arith, same)
