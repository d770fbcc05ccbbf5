use Rattle.ownership_lowering_runs.proofs.EndedRuns.Ended.{runs_end}
use Rattle.ownership_lowering_runs.proofs.ended_runs.laws.runs_end.Goals as goal

pub returns : goal.returns
returns c = runs_end
