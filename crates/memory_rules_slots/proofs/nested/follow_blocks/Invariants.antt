use Rattle.std.proofs.Common.{ℕ, ◌<◌}
use Rattle.sil_ast.specs.declared.place.ValueId.{ValueId}
use Rattle.sil_cfg.specs.Flow.{numbered}
use Rattle.memory_rules_accesses.specs.reach_engine_marks.PathPatterns.inner.Reads.{accesses_at}
use Rattle.memory_rules_slots.specs.inner.Trust.{IsTrusted}
use Rattle.memory_rules_slots.specs.inner.Nesting.{stack_at, IsBlockNested}
use Rattle.memory_rules_slots.proofs.nested.follow_blocks.Given as goal

abbrev pub invariant-loop-number : goal.invariant-loop-number
invariant-loop-number l = (a : ValueId) → IsTrusted l.doubts a → (b : ℕ) → b < l.number → IsBlockNested l.sources l.ranks (accesses_at l.accesses) (numbered l.g) (stack_at l.stacks) b a
