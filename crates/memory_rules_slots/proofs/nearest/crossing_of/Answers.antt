use Rattle.std.proofs.Common.{subst}
use Rattle.sil_cfg.specs.Flow.{numbered}
use Rattle.reach_engine.specs.inner.Reach.{ReachesPoint}
use Rattle.reach_engine.specs.inner.Search.{IfFault, IsShortest}
use Rattle.memory_rules_accesses.specs.reach_engine_marks.PathPatterns.inner.Reads.{accesses_at}
use Rattle.memory_rules_slots.specs.inner.Automaton.{pair_step}
use Rattle.memory_rules_slots.proofs.PairsSearched.{pair_found}
use Rattle.memory_rules_slots.proofs.nearest.crossing_of.Goals as goal

pub returns : goal.returns
returns c =
    let step = pair_step (accesses_at c.args.accesses.now) c.args.first c.args.second in
    pair_found c.args.g.now (accesses_at c.args.accesses.now) c.args.first c.args.second c.in-Fault.walk c.in-Fault.point c.in-Fault.code
    (subst (λ r. IfFault r (λ walk point code. ReachesPoint c.args.g.now step walk code point)) c.in-Fault.is c.in_ok-search.ensures.fault)
    (subst (λ r. IfFault r (λ walk point code. IsShortest (numbered c.args.g.now) step code walk)) c.in-Fault.is c.in_ok-search.ensures.shortest)
