use Rattle.reach_engine.proofs.MaskedWords.{Writing, masked_at}
use Rattle.reach_engine.proofs.bits.merge_masked.Given as goal

abbrev pub invariant-loop-i : goal.invariant-loop-i
invariant-loop-i l = Writing l.initial.words l.words l.offset l.i (masked_at l.initial.words l.offset l.source l.mask)
