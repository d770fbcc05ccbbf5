use Rattle.std.proofs.Common.{subst, arith}
use Rattle.std.proofs.lemmas.List.{take_all}
use Rattle.memory_rules_accesses.specs.reach_engine_marks.PathPatterns.inner.Reads.{accesses_at}
use Rattle.memory_rules_slots.specs.inner.Searches.{IsNearest}
use Rattle.memory_rules_slots.proofs.PairsSearched.{nearest_more}
use Rattle.memory_rules_slots.proofs.nearest.nearest_crossing.Goals as goal

pub loop-second-preserved : goal.loop-second-preserved
loop-second-preserved c =
    nearest_more c.args.g.now (accesses_at c.args.accesses.now) c.args.first c.args.slots.now c.loop-second.second-index _ c.loop-second-test.true c.requires.ascending c.loop-second.best
    c.in_ok-next.next c.nearer-best.result
    c.loop-second.invariant c.in_ok-next.ensures c.nearer-best.ensures

pub returns : goal.returns
returns c =
    subst (λ v. IsNearest c.args.g.now (accesses_at c.args.accesses.now) c.args.first v c.loop-second.best) (take_all c.loop-second.second-index c.args.slots.now (omega arith)) c.loop-second.invariant
