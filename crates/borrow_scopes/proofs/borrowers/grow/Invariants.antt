use Rattle.std.proofs.Common.{◌≡◌, ◌-◌, ◌+◌, ℕ, length}
use Rattle.borrow_scopes.specs.inner.Tables.{borrowers_at}
use Rattle.borrow_scopes.proofs.borrowers.grow.Given as goal

abbrev pub invariant-loop-alloc : goal.invariant-loop-alloc
invariant-loop-alloc l = (b : ℕ) → borrowers_at l.rows.items b ≡ borrowers_at l.initial.rows.items b

abbrev pub decreases-loop-alloc : goal.decreases-loop-alloc
decreases-loop-alloc l = (l.base + 1) - length l.rows.items
