use Rattle.std.proofs.Common.{◌≢◌, ◌<◌, ℕ, All}
use Rattle.sil_ast.specs.declared.place.ValueId.{ValueId}
use Rattle.memory_rules_accesses.specs.declared.access.Access.TheVariants.{Deallocates}
use Rattle.memory_rules_accesses.specs.reach_engine_marks.PathPatterns.inner.Reads.{accesses_at}
use Rattle.memory_rules_slots.specs.inner.Trust.{IsTrusted}
use Rattle.memory_rules_slots.proofs.deallocated.deallocated_slots.Given as goal

abbrev pub invariant-loop-item : goal.invariant-loop-item
invariant-loop-item l = (v : ValueId) → IsTrusted l.found v → (i : ℕ) → i < l.item-index → All (λ x. x ≢ Deallocates v) (accesses_at l.accesses i)
