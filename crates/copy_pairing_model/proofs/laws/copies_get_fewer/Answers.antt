use Rattle.copy_pairing_model.proofs.Fewer.{fewer}
use Rattle.copy_pairing_model.proofs.laws.copies_get_fewer.Goals as goal

pub returns : goal.returns
returns c = fewer
