use Rattle.copy_pairing_runs.proofs.OptimisedRuns.Optimised.{optimised_runs}
use Rattle.copy_pairing_runs.proofs.optimised_runs.laws.optimised_runs_as_it_did.Goals as goal

pub returns : goal.returns
returns c = optimised_runs c.lent_runs_as_it_did.ensures c.moved_runs_as_it_did.ensures c.rewriting_keeps_verified.ensures c.rewritten_again.ensures
