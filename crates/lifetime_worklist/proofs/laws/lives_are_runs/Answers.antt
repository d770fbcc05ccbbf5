use Rattle.lifetime_worklist.proofs.LivesAreRuns.{ended_runs, held_while_on, lives_runs}
use Rattle.lifetime_worklist.proofs.laws.lives_are_runs.Goals as goal

pub returns-clause-held : goal.returns-clause-held
returns-clause-held c = held_while_on

pub returns-clause-runs : goal.returns-clause-runs
returns-clause-runs c = lives_runs

pub returns-clause-ended : goal.returns-clause-ended
returns-clause-ended c = ended_runs
