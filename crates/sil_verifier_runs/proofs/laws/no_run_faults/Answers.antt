use Rattle.sil_verifier_runs.proofs.RightRuns.{no_run_faults}
use Rattle.sil_verifier_runs.proofs.laws.no_run_faults.Goals as goal

pub returns : goal.returns
returns c = no_run_faults
