use Rattle.std.proofs.Common.{◌≡◌, ◌++◌, take}
use Rattle.std.specs.List.{flat_map}
use Rattle.ownership_kinds_chains.specs.OwnershipMarks.Known.{facts_of}
use Rattle.memory_rules_parts.specs.inner.Batches.{entry_at}
use Rattle.memory_rules_parts.proofs.entries.add_of_each.Given as goal

abbrev pub invariant-loop-number : goal.invariant-loop-number
invariant-loop-number l = l.entries.items ≡ l.initial.entries.items ++ flat_map (entry_at l.batch.m.now (facts_of l.batch.k.now) l.batch.parts.now l.access) (take l.number-index l.numbers)
