use Rattle.copy_pairing_acceptance.proofs.RewritingOrder.MovedForth.{keeps_values}
use Rattle.copy_pairing_acceptance.proofs.rewriting_order.laws.moving_keeps_values.Goals as goal

pub returns : goal.returns
returns c = keeps_values
