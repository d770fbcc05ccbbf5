use Rattle.std.proofs.Common.{take}
use Rattle.memory_rules_parts.specs.inner.Concerned.{AreConcerned}
use Rattle.memory_rules_parts.proofs.concerned.add_parts.Given as goal

abbrev pub invariant-loop-part : goal.invariant-loop-part
invariant-loop-part l = AreConcerned l.m (take l.part-index l.batch) l.concerned
