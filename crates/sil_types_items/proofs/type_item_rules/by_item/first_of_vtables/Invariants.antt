use Rattle.std.proofs.Common.{◌≡◌, ◌+◌, drop, map}
use Rattle.sil_types_declarations.specs.TypeDefinitions.Mentions as item
use Rattle.sil_types_items.specs.TypeItemRules.Faults.{fault_from}
use Rattle.sil_types_items.proofs.type_item_rules.by_item.first_of_vtables.Given as goal

abbrev pub invariant-loop-vtable : goal.invariant-loop-vtable
invariant-loop-vtable l = (l.number ≡ l.from + l.vtable-index) × (fault_from l.table l.number (map item.vtable (drop l.vtable-index l.vtables)) ≡ fault_from l.table l.from (map item.vtable l.vtables))
