use Rattle.std.proofs.Common.{◌≡◌, ◌≤◌, take, length}
use Rattle.std.specs.List.{flat_map}
use Rattle.sil_types_declarations.specs.TypeDefinitions.Mentions.{operand_types}
use Rattle.sil_types_items.proofs.type_measures.measure.typed_count.Given as goal

abbrev pub invariant-loop-operand : goal.invariant-loop-operand
invariant-loop-operand l = (l.count ≤ l.operand-index) × (l.count ≡ length (flat_map operand_types (take l.operand-index l.operands)))
