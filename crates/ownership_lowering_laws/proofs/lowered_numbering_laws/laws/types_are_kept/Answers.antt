use Rattle.ownership_lowering_laws.proofs.LoweredNumberingLaws.Types.{types_are_kept}
use Rattle.ownership_lowering_laws.proofs.lowered_numbering_laws.laws.types_are_kept.Goals as goal

pub returns : goal.returns
returns c = types_are_kept
