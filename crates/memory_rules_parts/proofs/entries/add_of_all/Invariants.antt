use Rattle.std.proofs.Common.{◌≡◌, ◌++◌, take}
use Rattle.ownership_kinds_chains.specs.OwnershipMarks.Known.{facts_of}
use Rattle.memory_rules_parts.specs.inner.Batches.{joint}
use Rattle.memory_rules_parts.proofs.entries.add_of_all.Given as goal

abbrev pub invariant-loop-number : goal.invariant-loop-number
invariant-loop-number l = l.entries.items ≡ l.initial.entries.items ++ joint l.batch.m.now (facts_of l.batch.k.now) (take l.number l.batch.parts.now) l.access
