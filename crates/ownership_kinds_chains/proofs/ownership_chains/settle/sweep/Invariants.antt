use Rattle.ownership_kinds_chains.specs.OwnershipChains.Facts.{told_at}
use Rattle.ownership_kinds_chains.specs.OwnershipChains.inner.Settling.{IsSound, Sweeps}
use Rattle.ownership_kinds_chains.proofs.ownership_chains.settle.sweep.Given as goal

abbrev pub invariant-loop-number : goal.invariant-loop-number
invariant-loop-number l = IsSound l.defs (told_at l.table) × Sweeps l.defs l.initial.table l.table l.number l.moved
