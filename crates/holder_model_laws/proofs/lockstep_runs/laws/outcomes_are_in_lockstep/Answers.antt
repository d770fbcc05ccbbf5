use Rattle.holder_model_laws.proofs.LockstepRuns.OutcomesAgree.{outcomes_in_lockstep}
use Rattle.holder_model_laws.proofs.lockstep_runs.laws.outcomes_are_in_lockstep.Goals as goal

pub returns : goal.returns
returns c = outcomes_in_lockstep
