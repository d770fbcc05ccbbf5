use Rattle.std.proofs.Common.{sym, arith}
use Rattle.memory_rules_accesses.specs.reach_engine_marks.PathPatterns.inner.Reads.{read_step}
use Rattle.memory_rules_accesses.proofs.reach_engine_marks.PathPatterns.PatternsDecided.{bad_access}
use Rattle.memory_rules_slots.specs.inner.Automaton.{order_step}
use Rattle.memory_rules_slots.specs.Marks.{pair_mark}
use Rattle.memory_rules_slots.proofs.pair.step_all.Goals as goal

pub returns-in-Bad-clause-step : goal.returns-in-Bad-clause-step
returns-in-Bad-clause-step c =
    let step = read_step order_step (pair_mark c.args.first c.args.second) in
    sym (bad_access step c.args.accesses.now c.loop-access.access-index _ c.args.state c.loop-access.current c.in-Bad.code (omega arith) (sym c.in-Bad.ensures.step) c.loop-access.invariant.0)
