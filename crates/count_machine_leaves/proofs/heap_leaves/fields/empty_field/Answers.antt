use Rattle.std.proofs.Common.{arith}
use Rattle.count_machine_leaves.proofs.HeapLeaves.HeapChanges.{emptied_past}
use Rattle.count_machine_leaves.proofs.heap_leaves.fields.empty_field.Goals as goal

pub returns-else-field-field_count : goal.returns-else-field-field_count
returns-else-field-field_count c = emptied_past c.args.heap.now c.args.object c.args.field (omega arith)
