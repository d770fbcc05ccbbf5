use Rattle.ownership_lowering_runs.proofs.EndedRuns.Ended.{runs_end_alike}
use Rattle.ownership_lowering_runs.proofs.ended_runs.laws.runs_end_alike.Goals as goal

pub returns : goal.returns
returns c = runs_end_alike
