use Rattle.ownership_lowering_laws.proofs.LoweringLaws.Lowerable.{functions_are_lowerable}
use Rattle.ownership_lowering_laws.proofs.lowering_laws.laws.functions_are_lowerable.Goals as goal

pub returns : goal.returns
returns c = functions_are_lowerable
