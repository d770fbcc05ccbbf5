use Rattle.copy_pairing_acceptance.proofs.RewritingOrder.Later.{later_left}
use Rattle.copy_pairing_acceptance.proofs.rewriting_order.laws.later_ones_are_left.Goals as goal

pub returns : goal.returns
returns c = later_left
