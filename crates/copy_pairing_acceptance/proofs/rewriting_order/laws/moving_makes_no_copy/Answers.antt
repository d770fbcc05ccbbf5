use Rattle.copy_pairing_acceptance.proofs.RewritingOrder.MovedForth.{makes_no_copy}
use Rattle.copy_pairing_acceptance.proofs.rewriting_order.laws.moving_makes_no_copy.Goals as goal

pub returns : goal.returns
returns c = makes_no_copy
