use Rattle.count_heap.proofs.HeapLaws.{freed_are_dead}
use Rattle.count_heap.proofs.laws.freed_objects_are_dead.Goals as goal

pub returns : goal.returns
returns c = freed_are_dead
