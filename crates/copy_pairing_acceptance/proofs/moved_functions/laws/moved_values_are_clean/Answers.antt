use Rattle.copy_pairing_acceptance.proofs.MovedFunctions.Clean.{moved_clean}
use Rattle.copy_pairing_acceptance.proofs.moved_functions.laws.moved_values_are_clean.Goals as goal

pub returns : goal.returns
returns c = moved_clean
