use Rattle.holder_model.proofs.LoweredRun.Once.{end_once}
use Rattle.holder_model.proofs.lowered_run.laws.lowered_runs_end_once.Goals as goal

pub returns : goal.returns
returns c = end_once
