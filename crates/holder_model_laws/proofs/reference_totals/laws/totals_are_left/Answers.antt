use Rattle.holder_model_laws.proofs.ReferenceTotals.Left.{totals_left}
use Rattle.holder_model_laws.proofs.reference_totals.laws.totals_are_left.Goals as goal

pub returns : goal.returns
returns c = totals_left
