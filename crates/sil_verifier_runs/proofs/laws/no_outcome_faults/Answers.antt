use Rattle.sil_verifier_runs.proofs.RightRuns.{no_outcome_faults}
use Rattle.sil_verifier_runs.proofs.laws.no_outcome_faults.Goals as goal

pub returns : goal.returns
returns c = no_outcome_faults
