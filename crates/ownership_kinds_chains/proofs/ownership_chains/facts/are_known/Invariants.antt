use Rattle.std.proofs.Common.{◌≡◌, take, true}
use Rattle.std.specs.List.{list_all}
use Rattle.ownership_kinds_chains.specs.OwnershipChains.Facts.{told_at, is_known}
use Rattle.ownership_kinds_chains.proofs.ownership_chains.facts.are_known.Given as goal

abbrev pub invariant-loop-value : goal.invariant-loop-value
invariant-loop-value l = list_all (is_known (told_at l.table)) (take l.value-index l.values) ≡ true
