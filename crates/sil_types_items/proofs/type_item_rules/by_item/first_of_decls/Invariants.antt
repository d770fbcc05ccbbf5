use Rattle.std.proofs.Common.{◌≡◌, ◌+◌, drop, map}
use Rattle.sil_types_declarations.specs.TypeDefinitions.Mentions as item
use Rattle.sil_types_items.specs.TypeItemRules.Faults.{fault_from}
use Rattle.sil_types_items.proofs.type_item_rules.by_item.first_of_decls.Given as goal

abbrev pub invariant-loop-decl : goal.invariant-loop-decl
invariant-loop-decl l = (l.number ≡ l.from + l.decl-index) × (fault_from l.table l.number (map item.decl (drop l.decl-index l.decls)) ≡ fault_from l.table l.from (map item.decl l.decls))
