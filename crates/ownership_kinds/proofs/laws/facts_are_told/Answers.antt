use Rattle.ownership_kinds.proofs.FactsTold.{facts_told}
use Rattle.ownership_kinds.proofs.laws.facts_are_told.Goals as goal

pub returns : goal.returns
returns c = facts_told
