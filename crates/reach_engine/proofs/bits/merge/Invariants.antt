use Rattle.reach_engine.proofs.BitLists.{Merging}
use Rattle.reach_engine.proofs.bits.merge.Given as goal

abbrev pub invariant-loop-i : goal.invariant-loop-i
invariant-loop-i l = Merging l.initial.rows l.rows l.bundle l.offset l.i l.is_new
