use Rattle.std.proofs.Common.{◌≡◌, ℕ, ◌+◌, ◌-◌, length}
use Rattle.std.specs.Prelude.{Bool}
use Rattle.ownership_kinds_chains.specs.OwnershipChains.Facts.{listed}
use Rattle.ownership_kinds_chains.proofs.OwnershipChains.Listed.{Merges}
use Rattle.ownership_kinds_chains.proofs.ownership_chains.bases.union.Given as goal

abbrev pub invariant-loop-i : goal.invariant-loop-i
invariant-loop-i l = (count : ℕ) (p q : ℕ → Bool) → l.one ≡ listed count p → l.other ≡ listed count q → Merges count p q l.one l.i l.other l.j l.all

abbrev pub decreases-loop-i : goal.decreases-loop-i
decreases-loop-i l = (length l.one - l.i) + (length l.other - l.j)
