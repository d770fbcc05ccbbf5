use Rattle.std.proofs.Common.{◌≡◌, ◌<◌, take}
use Rattle.reach_engine.specs.declared.scan.Step.TheVariants.{Go}
use Rattle.reach_engine.specs.inner.Run.{run}
use Rattle.memory_rules_accesses.specs.reach_engine_marks.PathPatterns.inner.Reads.{read_step}
use Rattle.memory_rules_slots.specs.inner.Automaton.{order_step}
use Rattle.memory_rules_slots.specs.Marks.{pair_mark}
use Rattle.memory_rules_slots.proofs.pair.step_all.Given as goal

abbrev pub invariant-loop-access : goal.invariant-loop-access
invariant-loop-access l = (run (read_step order_step (pair_mark l.first l.second)) (Go l.state) (take l.access-index l.accesses) ≡ Go l.current) × (l.current < 5)
