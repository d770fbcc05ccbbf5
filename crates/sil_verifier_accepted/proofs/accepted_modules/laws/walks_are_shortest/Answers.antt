-- For the law `walks_are_shortest`.
use Rattle.sil_verifier_accepted.proofs.AcceptedModules.ShortestWalks.{are_shortest}
use Rattle.sil_verifier_accepted.proofs.accepted_modules.laws.walks_are_shortest.Goals as goal

pub returns : goal.returns
returns c = are_shortest
