use Rattle.copy_pairing_runs.proofs.OptimisedRuns.Optimised.{outcomes_agree}
use Rattle.copy_pairing_runs.proofs.optimised_runs.laws.optimised_outcomes_agree.Goals as goal

pub returns : goal.returns
returns c = outcomes_agree c.optimised_runs_as_it_did.ensures c.outcomes_are_in_lockstep.ensures
