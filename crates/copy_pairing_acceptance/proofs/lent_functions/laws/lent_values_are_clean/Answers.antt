use Rattle.copy_pairing_acceptance.proofs.LentFunctions.Clean.{lent_values_clean}
use Rattle.copy_pairing_acceptance.proofs.lent_functions.laws.lent_values_are_clean.Goals as goal

pub returns : goal.returns
returns c = lent_values_clean
