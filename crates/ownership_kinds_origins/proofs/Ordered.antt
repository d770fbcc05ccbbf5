-- Definitions that go on only to values before them have no ring.
use Rattle.std.proofs.Common.{◌≡◌, ℕ, zero, suc, ◌+◌, ◌<◌, ◌≤◌, List, [], ◌∷◌, ◌++◌, map, length, replicate, sym, subst, arith, append_assoc}
use Rattle.std.specs.Prelude.{All, slice_get, unwrap_or, Option}
use Rattle.std.specs.List.{AllByRecursion as ByRecursion}
use Rattle.std.proofs.lemmas.List.{append-nil}
use Rattle.std.proofs.lemmas.List.Elements.{recursion_from_All}
use Rattle.sil_ast.specs.declared.function.BlockArg.{BlockArg}
use Rattle.sil_ast.specs.declared.operands.Operand.{Operand}
use Rattle.sil_ast.specs.declared.place.ValueId.{ValueId}
use Rattle.numbered_form.specs.Lists.{Each}
use Rattle.ownership_kinds_chains.specs.OwnershipChains.Chains.{operands_at, HasNoRing}
use Rattle.ownership_kinds_chains.specs.declared.ownership_chains.definition.Definition.{Definition}
use Rattle.ownership_kinds_chains.proofs.OwnershipChains.RingLemmas.{ordered_off}
use Rattle.ownership_kinds_origins.specs.inner.InOrder.{AreInOrder, LeadsOn}
use Rattle.ownership_kinds_origins.specs.Renamings.{arg_renaming, default_operand}
use Rattle.numbered_form.specs.ValueTables.FirstValue.{value_of}
use Rattle.ownership_kinds_origins.specs.declared.switched.Switched.{Switched}
use Rattle.ownership_kinds_origins.proofs.Ranges.{all_from_each}

each_below : (m n : ℕ) → m ≤ n → (vs : List ValueId) → Each (λ (w : ValueId). w.0 < m) vs → Each (λ (w : ValueId). w.0 < n) vs
each_below m n le [] h = tt
each_below m n le (v ∷ vs) h = (let lt : v.0 < m = h.0 in omega arith, each_below m n le vs h.1)

pub each_from_all : (P : ValueId → Type 0) (os : List Operand) → All (λ o. P o.value) os → Each P (map value_of os)
each_from_all P os h = at os (recursion_from_All (λ o. P o.value) os h)
  where
    at : (os : List Operand) → ByRecursion (λ o. P o.value) os → Each P (map value_of os)
    at [] h = tt
    at (o ∷ os) h = (h.0, at os h.1)

-- what is in order from a number on is so from a greater one
from_greater : (m n : ℕ) → m ≤ n → (ds : List Definition) → AreInOrder m ds → AreInOrder n ds
from_greater m n le [] h = tt
from_greater m n le (d ∷ ds) h = (each_below m n le d.operands h.0, from_greater (m + 1) (n + 1) (omega arith) ds h.1)

pub leads_along : (n m k : ℕ) (xs ys : List Definition) → LeadsOn n xs m → LeadsOn m ys k → LeadsOn n (xs ++ ys) k
leads_along n m k xs ys g h rest r = subst (AreInOrder n) (sym (append_assoc xs ys rest)) (g (ys ++ rest) (h rest r))

pub leads_times : (count : ℕ) (d : Definition) (n m : ℕ) → m ≤ n + count → Each (λ (w : ValueId). w.0 < n) d.operands → LeadsOn n (replicate count d) m
leads_times zero d n m le h rest r = from_greater m n (omega arith) rest r
leads_times (suc count) d n m le h rest r = (h, leads_times count d (n + 1) m (omega arith) (each_below n (n + 1) (omega arith) d.operands h) rest r)

pub leads_args : (s : Option Switched) (args : List BlockArg) (n m : ℕ) → m ≤ n + length args → Each (λ (w : ValueId). w.0 < n) (default_operand s) → LeadsOn n (map (arg_renaming s) args) m
leads_args s [] n m le h rest r = from_greater m n (omega arith) rest r
leads_args s (a ∷ args) n m le h rest r = (h, leads_args s args (n + 1) m (omega arith) (each_below n (n + 1) (omega arith) (default_operand s) h) rest r)

before_at : (n : ℕ) (ds : List Definition) → AreInOrder n ds → (k : ℕ) → Each (λ (w : ValueId). w.0 < n + k) (unwrap_or (slice_get (map (λ (d : Definition). d.operands) ds) k) [])
before_at n [] h zero = tt
before_at n [] h (suc k) = tt
before_at n (d ∷ ds) h zero = let e : n ≡ n + 0 = omega arith in subst (λ b. Each (λ (w : ValueId). w.0 < b) d.operands) e h.0
before_at n (d ∷ ds) h (suc k) = let e : (n + 1) + k ≡ n + suc k = omega arith in
    subst (λ b. Each (λ (w : ValueId). w.0 < b) (unwrap_or (slice_get (map (λ (x : Definition). x.operands) ds) k) [])) e (before_at (n + 1) ds h.1 k)

pub no_ring_in_order : (ds : List Definition) (m : ℕ) → LeadsOn 0 ds m → HasNoRing ds
no_ring_in_order ds m h = ordered_off ds (λ v lt. all_from_each (λ (w : ValueId). w.0 < v.0) (operands_at ds v) (let e : 0 + v.0 ≡ v.0 = omega arith in
    subst (λ b. Each (λ (w : ValueId). w.0 < b) (operands_at ds v)) e (before_at 0 ds ordered v.0)))
  where
    ordered : AreInOrder 0 ds
    ordered = subst (AreInOrder 0) (append-nil ds) (h [] tt)
