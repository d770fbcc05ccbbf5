use Rattle.std.proofs.Common.{◌≡◌, replicate, None}
use Rattle.ownership_kinds_chains.proofs.ownership_chains.settle.all_facts.Given as goal

abbrev pub invariant-loop : goal.invariant-loop
invariant-loop l = l.table.items ≡ replicate l.counter None
