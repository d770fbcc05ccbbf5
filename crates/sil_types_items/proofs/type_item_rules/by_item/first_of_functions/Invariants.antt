use Rattle.std.proofs.Common.{◌≡◌, ◌+◌, drop, map}
use Rattle.sil_types_declarations.specs.TypeDefinitions.Mentions as item
use Rattle.sil_types_items.specs.TypeItemRules.Faults.{fault_from}
use Rattle.sil_types_items.proofs.type_item_rules.by_item.first_of_functions.Given as goal

abbrev pub invariant-loop-function : goal.invariant-loop-function
invariant-loop-function l = (l.number ≡ l.from + l.function-index)
    × (fault_from l.table l.number (map item.function (drop l.function-index l.functions)) ≡ fault_from l.table l.from (map item.function l.functions))
