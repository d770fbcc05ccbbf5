use Rattle.std.proofs.Common.{◌≡◌, ◌++◌, take}
use Rattle.std.specs.List.{flat_map}
use Rattle.memory_rules_parts.specs.inner.Keys.{built_key}
use Rattle.memory_rules_parts.proofs.key.add_built.Given as goal

abbrev pub invariant-loop-base : goal.invariant-loop-base
invariant-loop-base l = l.found.items ≡ l.initial.found.items ++ flat_map (built_key l.m) (take l.base-index l.bases)
