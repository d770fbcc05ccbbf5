use Rattle.copy_pairing_acceptance.proofs.MovedMemory.MovedMemory.{moved_memory_clean}
use Rattle.copy_pairing_acceptance.proofs.moved_memory.laws.moved_memory_is_clean.Goals as goal

pub returns : goal.returns
returns c = moved_memory_clean
