use Rattle.ownership_lowering_laws.proofs.LoweredNumberingLaws.Modules.{lowered_is_numbered}
use Rattle.ownership_lowering_laws.proofs.lowered_numbering_laws.laws.lowered_is_numbered.Goals as goal

pub returns : goal.returns
returns c = lowered_is_numbered
