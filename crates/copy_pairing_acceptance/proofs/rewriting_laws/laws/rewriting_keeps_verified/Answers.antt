use Rattle.copy_pairing_acceptance.proofs.RewritingLaws.Verified.{rewriting_keeps_verified}
use Rattle.copy_pairing_acceptance.proofs.rewriting_laws.laws.rewriting_keeps_verified.Goals as goal

pub returns : goal.returns
returns c =
    rewriting_keeps_verified c.rewriting_keeps_types.ensures c.lent_values_are_clean.ensures c.lent_memory_is_clean.ensures
    c.moved_values_are_clean.ensures c.moved_memory_is_clean.ensures
