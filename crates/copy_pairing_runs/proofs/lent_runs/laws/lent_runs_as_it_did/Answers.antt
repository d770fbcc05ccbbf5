use Rattle.copy_pairing_runs.proofs.LentRuns.AsItDid.{lent_runs_as_it_did}
use Rattle.copy_pairing_runs.proofs.lent_runs.laws.lent_runs_as_it_did.Goals as goal

pub returns : goal.returns
returns c = lent_runs_as_it_did c.rewriting_keeps_verified.ensures
