use Rattle.ownership_kinds_chains.proofs.OwnershipChains.FactLemmas.{are_unique}
use Rattle.ownership_kinds_chains.proofs.ownership_chains.laws.facts_are_unique.Goals as goal

pub returns : goal.returns
returns c = are_unique
