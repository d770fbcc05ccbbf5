use Rattle.copy_pairing_acceptance.proofs.LentMemory.Lent.{memory_is_clean}
use Rattle.copy_pairing_acceptance.proofs.lent_memory.laws.lent_memory_is_clean.Goals as goal

pub returns : goal.returns
returns c = memory_is_clean
