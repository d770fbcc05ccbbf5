use Rattle.std.proofs.Common.{◌≡◌, take, false}
use Rattle.std.specs.List.{list_any}
use Rattle.memory_rules_parts.specs.inner.Concerned.{is_built}
use Rattle.memory_rules_parts.proofs.concerned.any_built.Given as goal

abbrev pub invariant-loop-base : goal.invariant-loop-base
invariant-loop-base l = list_any (is_built l.m l.concerned) (take l.base-index l.bases) ≡ false
