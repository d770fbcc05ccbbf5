use Rattle.ownership_lowering_laws.proofs.LoweringLaws.Rings.{kinds_have_no_rings}
use Rattle.ownership_lowering_laws.proofs.lowering_laws.laws.kinds_have_no_rings.Goals as goal

pub returns : goal.returns
returns c = kinds_have_no_rings
