use Rattle.ownership_lowering_runs.proofs.SameRuns.NumbersCounted.{numbers_counted}
use Rattle.ownership_lowering_runs.proofs.same_runs.laws.numbers_are_counts.Goals as goal

pub returns : goal.returns
returns c = numbers_counted
