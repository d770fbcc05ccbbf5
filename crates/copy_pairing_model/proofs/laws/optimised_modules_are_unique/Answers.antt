use Rattle.copy_pairing_model.proofs.Unique.{unique}
use Rattle.copy_pairing_model.proofs.laws.optimised_modules_are_unique.Goals as goal

pub returns : goal.returns
returns c = unique
