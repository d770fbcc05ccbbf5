use Rattle.ownership_kinds_chains.specs.OwnershipChains.Facts.{told_at}
use Rattle.copy_pairing.proofs.MovedCopies.{IsQuietBefore}
use Rattle.copy_pairing.proofs.moves.destroyed_in.Given as goal

abbrev pub invariant-loop-index : goal.invariant-loop-index
invariant-loop-index l = IsQuietBefore (told_at l.k.table) l.f l.p l.copied.value l.copied.operand l.index
