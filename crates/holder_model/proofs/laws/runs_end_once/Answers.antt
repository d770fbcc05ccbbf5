use Rattle.holder_model.proofs.Once.{end_once}
use Rattle.holder_model.proofs.laws.runs_end_once.Goals as goal

pub returns : goal.returns
returns c = end_once
