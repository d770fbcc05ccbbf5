use Rattle.reach_engine.proofs.MaskedWords.{Writing, all_ones}
use Rattle.reach_engine.proofs.bits.set_words.Given as goal

abbrev pub invariant-loop-i : goal.invariant-loop-i
invariant-loop-i l = Writing l.initial.words l.words l.offset l.i all_ones
