use Rattle.std.proofs.Common.{◌≡◌, ◌-◌, ◌+◌, ℕ, length}
use Rattle.reach_engine_marks.specs.PathPatterns.inner.Reads.{accesses_at}
use Rattle.memory_rules_parts.proofs.index.grow.Given as goal

abbrev pub invariant-loop-alloc : goal.invariant-loop-alloc
invariant-loop-alloc l = (r : ℕ) → accesses_at l.rows.items r ≡ accesses_at l.initial.rows.items r

abbrev pub decreases-loop-alloc : goal.decreases-loop-alloc
decreases-loop-alloc l = (l.row + 1) - length l.rows.items
