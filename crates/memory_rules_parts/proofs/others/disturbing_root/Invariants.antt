use Rattle.std.proofs.Common.{◌≡◌, drop, find}
use Rattle.std.specs.Prelude.{option_and_then}
use Rattle.memory_rules_parts.specs.Loans.{disturbs, root_of}
use Rattle.memory_rules_parts.proofs.others.disturbing_root.Given as goal

abbrev pub invariant-loop-access : goal.invariant-loop-access
invariant-loop-access l =
    option_and_then (root_of l.m) (find (disturbs l.m l.address) (drop l.access-index l.accesses))
    ≡ option_and_then (root_of l.m) (find (disturbs l.m l.address) l.accesses)
