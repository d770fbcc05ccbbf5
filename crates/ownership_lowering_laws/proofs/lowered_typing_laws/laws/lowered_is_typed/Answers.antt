use Rattle.ownership_lowering_laws.proofs.LoweredTypingLaws.Lowered.{lowered_is_typed}
use Rattle.ownership_lowering_laws.proofs.lowered_typing_laws.laws.lowered_is_typed.Goals as goal

pub returns : goal.returns
returns c = lowered_is_typed
