use Rattle.ownership_kinds_chains.proofs.OwnershipChains.Enough.{told_in_time}
use Rattle.ownership_kinds_chains.proofs.ownership_chains.laws.facts_are_told_in_time.Goals as goal

pub returns : goal.returns
returns c = told_in_time
