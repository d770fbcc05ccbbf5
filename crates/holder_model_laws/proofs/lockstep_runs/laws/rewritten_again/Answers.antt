use Rattle.holder_model_laws.proofs.LockstepRuns.Again.{as_it_did_again}
use Rattle.holder_model_laws.proofs.lockstep_runs.laws.rewritten_again.Goals as goal

pub returns : goal.returns
returns c = as_it_did_again
