use Rattle.std.proofs.Common.{◌≤◌, length, take, All}
use Rattle.std.specs.Prelude.{Contains}
use Rattle.memory_rules_slots.proofs.nested.is_within.Given as goal

abbrev pub invariant-loop-slot : goal.invariant-loop-slot
invariant-loop-slot l = record {
  within : l.found ≤ length l.stack;
  all : All (λ u. Contains l.other u) (take l.found l.stack);
}
