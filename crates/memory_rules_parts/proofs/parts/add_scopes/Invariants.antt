use Rattle.std.proofs.Common.{◌≡◌, ◌++◌, take}
use Rattle.memory_rules_parts.specs.Parts.{scope_parts}
use Rattle.memory_rules_parts.proofs.parts.add_scopes.Given as goal

abbrev pub invariant-loop-base : goal.invariant-loop-base
invariant-loop-base l = l.found.items ≡ l.initial.found.items ++ scope_parts l.m l.address (take l.base-index l.bases)
