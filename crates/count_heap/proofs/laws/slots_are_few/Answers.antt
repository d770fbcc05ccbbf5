use Rattle.count_heap.proofs.HeapLaws.{slots_few}
use Rattle.count_heap.proofs.laws.slots_are_few.Goals as goal

pub returns : goal.returns
returns c = slots_few
