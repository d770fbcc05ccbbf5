use Rattle.std.proofs.Common.{◌≡◌, ℕ, take}
use Rattle.ownership_kinds_chains.specs.OwnershipChains.Facts.{has}
use Rattle.borrow_scopes.specs.inner.Tables.{borrowers_at, with_last_if}
use Rattle.borrow_scopes.proofs.borrowers.add_to_bases.Given as goal

abbrev pub invariant-loop-base : goal.invariant-loop-base
invariant-loop-base l = (b : ℕ) → borrowers_at l.rows.items b ≡ with_last_if (has (take l.base-index l.bases) b) (borrowers_at l.initial.rows.items b) l.scope
