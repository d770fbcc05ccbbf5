use Rattle.std.proofs.Common.{◌≤◌, ◌-◌, length, take, None}
use Rattle.memory_rules_parts.specs.inner.Batches.{IsFirstAmong}
use Rattle.memory_rules_parts.proofs.first.count_clean.Given as goal

abbrev pub invariant-loop-first : goal.invariant-loop-first
invariant-loop-first l = record {
  within : l.first ≤ length l.parts;
  clean : IsFirstAmong l.m l.f l.g l.k (take l.first l.parts) None;
}

abbrev pub decreases-loop-first : goal.decreases-loop-first
decreases-loop-first l = length l.parts - l.first
