use Rattle.sil_types_items.proofs.TypeItemRules.FirstFaults.{first_of_parts}
use Rattle.sil_types_items.proofs.type_item_rules.by_item.first_fault.Goals as goal

pub returns : goal.returns
returns c = first_of_parts c.args.table.now c.args.m.now c.fault_of_parts.result c.fault_of_parts.ensures
