use Rattle.module_runner.proofs.WholeRuns.{ends_as_it_did}
use Rattle.module_runner.proofs.laws.optimised_ends_as_it_did.Goals as goal

pub returns : goal.returns
returns c =
    ends_as_it_did c.runs_end_once.ensures c.lowered_runs_end_once.ensures c.runs_end_alike.ensures c.optimised_outcomes_agree.ensures
    c.rewriting_keeps_verified.ensures
