use Rattle.std.proofs.Common.{sym, arith}
use Rattle.reach_engine_marks.specs.PathPatterns.inner.Reads.{read_step}
use Rattle.reach_engine_marks.specs.PathPatterns.inner.Automaton.{mark_step}
use Rattle.reach_engine_marks.proofs.PathPatterns.PatternsDecided.{bad_access}
use Rattle.reach_engine_marks.specs.PathChecks.Entries.{means}
use Rattle.reach_engine_marks.proofs.path_checks.chunk.step_all.Goals as goal

pub returns-in-Bad-clause-step : goal.returns-in-Bad-clause-step
returns-in-Bad-clause-step c =
    let step = read_step mark_step (means c.args.subject) in
    sym (bad_access step c.args.entries.now c.loop-entry.entry-index _ c.args.state c.loop-entry.current c.in-Bad.code (omega arith) (sym c.in-Bad.ensures.step) c.loop-entry.invariant.0)
