use Rattle.copy_pairing_acceptance.proofs.RewrittenTypingLaws.Kept.{rewriting_keeps_types}
use Rattle.copy_pairing_acceptance.proofs.rewritten_typing_laws.laws.rewriting_keeps_types.Goals as goal

pub returns : goal.returns
returns c = rewriting_keeps_types
