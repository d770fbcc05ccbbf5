use Rattle.copy_pairing_runs.proofs.MovedRuns.AsItDid.{moved_runs_as_it_did}
use Rattle.copy_pairing_runs.proofs.moved_runs.laws.moved_runs_as_it_did.Goals as goal

pub returns : goal.returns
returns c = moved_runs_as_it_did c.rewriting_keeps_verified.ensures
