use Rattle.copy_pairing_acceptance.proofs.RewritingOrder.Lending.{makes_no_copy}
use Rattle.copy_pairing_acceptance.proofs.rewriting_order.laws.lending_makes_no_copy.Goals as goal

pub returns : goal.returns
returns c = makes_no_copy
