use Rattle.copy_pairing_acceptance.proofs.RewritingLaws.Verified.{optimised_is_verified}
use Rattle.copy_pairing_acceptance.proofs.rewriting_laws.laws.optimised_is_verified.Goals as goal

pub returns : goal.returns
returns c = optimised_is_verified c.rewriting_keeps_verified.ensures
