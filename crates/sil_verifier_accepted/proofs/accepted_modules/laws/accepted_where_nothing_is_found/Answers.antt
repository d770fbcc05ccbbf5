-- For the law `accepted_where_nothing_is_found`.
use Rattle.sil_verifier_accepted.proofs.AcceptedModules.NothingFound.{are_accepted}
use Rattle.sil_verifier_accepted.proofs.accepted_modules.laws.accepted_where_nothing_is_found.Goals as goal

pub returns : goal.returns
returns c = are_accepted
