use Rattle.std.proofs.Common.{◌≡◌, ◌+◌, ◌*◌, length, false, cond}
use Rattle.ownership_kinds_chains.specs.OwnershipChains.Facts.{told_at}
use Rattle.ownership_kinds_chains.specs.OwnershipChains.inner.Settling.{IsSound, AreStuck, unknown}
use Rattle.ownership_kinds_chains.proofs.ownership_chains.settle.settle.Given as goal

abbrev pub invariant-loop-moved : goal.invariant-loop-moved
invariant-loop-moved l = IsSound l.defs (told_at l.table) × (l.moved ≡ false → AreStuck l.defs (told_at l.table) (length l.defs))

abbrev pub decreases-loop-moved : goal.decreases-loop-moved
decreases-loop-moved l = 2 * unknown l.table + cond l.moved 1 0
