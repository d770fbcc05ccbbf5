use Rattle.std.proofs.Common.{◌≡◌, ◌++◌, take}
use Rattle.std.specs.List.{flat_map}
use Rattle.ownership_kinds_chains.specs.OwnershipMarks.Known.{facts_of}
use Rattle.memory_rules_parts.specs.inner.Batches.{joint}
use Rattle.memory_rules_parts.proofs.entries.add_of_accesses.Given as goal

abbrev pub invariant-loop-access : goal.invariant-loop-access
invariant-loop-access l = l.entries.items ≡ l.initial.entries.items ++ flat_map (joint l.batch.m.now (facts_of l.batch.k.now) l.batch.parts.now) (take l.access-index l.accesses)
