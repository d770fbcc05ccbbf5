use Rattle.count_heap.proofs.HeapLaws.{finished_are_dead}
use Rattle.count_heap.proofs.laws.finished_objects_are_dead.Goals as goal

pub returns : goal.returns
returns c = finished_are_dead
