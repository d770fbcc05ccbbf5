use Rattle.ownership_lowering_laws.proofs.LoweredNumberingLaws.Types.{declares_the_same}
use Rattle.ownership_lowering_laws.proofs.lowered_numbering_laws.laws.declares_the_same.Goals as goal

pub returns : goal.returns
returns c = declares_the_same
