-- The entries that items share, where a test tells which subjects have the one mark.
use Rattle.std.proofs.Common.{◌≡◌, ℕ, zero, suc, ◌+◌, [], ◌∷◌, ◌++◌, map, refl, ap₂, Bool, true, false, cond, Some, None}
use Rattle.std.specs.List.{flat_map, range_with_len}
use Rattle.reach_engine_marks.specs.PathChecks.inner.Shared.{entry_if, shared_from}
use Rattle.reach_engine_marks.specs.declared.path_patterns.mark.Mark.{Mark}

picked_if : (n : ℕ) (m : Mark) (b : Bool) → entry_if n (cond b (Some m) None) ≡ cond b (record { subject = n; mark = m } ∷ []) []
picked_if n m true = refl
picked_if n m false = refl

pub shared_picked : (p : ℕ → Bool) (m : Mark) (n count : ℕ) →
    shared_from n (map (λ i. cond (p i) (Some m) None) (range_with_len n count)) ≡ flat_map (λ i. cond (p i) (record { subject = i; mark = m } ∷ []) []) (range_with_len n count)
shared_picked p m n zero = refl
shared_picked p m n (suc count) = ap₂ (λ x y. x ++ y) (picked_if n m (p n)) (shared_picked p m (n + 1) count)
