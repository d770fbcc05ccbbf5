use Rattle.ownership_lowering_runs.proofs.SameRuns.RunsSame.{runs_same}
use Rattle.ownership_lowering_runs.proofs.same_runs.laws.lowered_runs_are_same.Goals as goal

pub returns : goal.returns
returns c = runs_same
