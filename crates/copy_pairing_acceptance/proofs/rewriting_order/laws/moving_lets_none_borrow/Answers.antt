use Rattle.copy_pairing_acceptance.proofs.RewritingOrder.MovedForth.{lets_none_borrow}
use Rattle.copy_pairing_acceptance.proofs.rewriting_order.laws.moving_lets_none_borrow.Goals as goal

pub returns : goal.returns
returns c = lets_none_borrow
