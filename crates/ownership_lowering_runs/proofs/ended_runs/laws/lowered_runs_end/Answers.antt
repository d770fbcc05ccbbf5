use Rattle.ownership_lowering_runs.proofs.EndedRuns.Ended.{lowered_runs_end}
use Rattle.ownership_lowering_runs.proofs.ended_runs.laws.lowered_runs_end.Goals as goal

pub returns : goal.returns
returns c = lowered_runs_end
