use Rattle.std.proofs.Common.{take}
use Rattle.memory_rules_parts.specs.inner.Batches.{IsFirstAmong}
use Rattle.memory_rules_parts.proofs.first.first_from.Given as goal

abbrev pub invariant-loop-number : goal.invariant-loop-number
invariant-loop-number l = IsFirstAmong l.m l.f l.g l.k (take l.number l.parts) l.best
