use Rattle.copy_pairing_acceptance.proofs.RewritingOrder.Lending.{keeps_borrowable}
use Rattle.copy_pairing_acceptance.proofs.rewriting_order.laws.lending_keeps_borrowable.Goals as goal

pub returns : goal.returns
returns c = keeps_borrowable
