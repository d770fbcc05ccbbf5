use Rattle.std.proofs.Common.{◌≡◌, ℕ, ◌<◌, length}
use Rattle.reach_engine_marks.specs.PathPatterns.inner.Reads.{accesses_at}
use Rattle.memory_rules_accesses.specs.inner.Done.{told_at_item}
use Rattle.memory_rules_accesses.proofs.accesses.accesses_by_item.Given as goal

abbrev pub invariant-loop-i : goal.invariant-loop-i
invariant-loop-i l = record {
  size : length l.all.items ≡ l.i;
  accesses : (n : ℕ) → n < l.i → accesses_at l.all.items n ≡ told_at_item l.m l.f l.g l.k n;
}
