use Rattle.std.proofs.Common.{◌≢◌, take, All}
use Rattle.sil_ast.specs.declared.place.ValueId.{ValueId}
use Rattle.memory_rules_accesses.specs.declared.access.Access.TheVariants.{Deallocates}
use Rattle.memory_rules_slots.specs.inner.Trust.{IsTrusted, Keeps}
use Rattle.memory_rules_slots.proofs.deallocated.add_deallocated.Given as goal

abbrev pub invariant-loop-access : goal.invariant-loop-access
invariant-loop-access l = record {
  keeps : Keeps l.initial.found l.found;
  added : (v : ValueId) → IsTrusted l.found v → All (λ x. x ≢ Deallocates v) (take l.access-index l.accesses);
}
