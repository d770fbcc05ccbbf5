use Rattle.std.proofs.Common.{ℕ, ◌<◌}
use Rattle.sil_ast.specs.declared.place.ValueId.{ValueId}
use Rattle.sil_cfg.specs.Flow.{edge_id, numbered}
use Rattle.memory_rules_accesses.specs.reach_engine_marks.PathPatterns.inner.Reads.{accesses_at}
use Rattle.memory_rules_slots.specs.inner.Trust.{IsTrusted, Keeps}
use Rattle.memory_rules_slots.specs.inner.Nesting.{stack_at, IsEdgeNested}
use Rattle.memory_rules_slots.proofs.nested.follow_edges.Given as goal

abbrev pub invariant-loop-index : goal.invariant-loop-index
invariant-loop-index l = record {
  keeps : Keeps l.initial.doubts l.doubts;
  nested : (a : ValueId) → IsTrusted l.doubts a → (i : ℕ) → i < l.index → IsEdgeNested l.sources l.ranks (accesses_at l.accesses) (numbered l.g) (stack_at l.stacks) l.stack (edge_id l.block.0 i) a;
}
