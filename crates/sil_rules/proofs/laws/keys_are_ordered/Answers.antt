use Rattle.sil_rules.proofs.Keys.{not_after_refl, not_after_trans, not_after_total, not_after_antisym}
use Rattle.sil_rules.proofs.laws.keys_are_ordered.Goals as goal

pub returns : goal.returns
returns c = record { itself = not_after_refl; through = not_after_trans; either = not_after_total; both = not_after_antisym }
