use Rattle.std.proofs.Common.{◌≡◌, drop}
use Rattle.std.specs.List.{list_any, flat_map}
use Rattle.sil_types_declarations.specs.TypeDefinitions.Mentions.{in_operand}
use Rattle.sil_types_items.proofs.type_mentions.insts.any_in_operands.Given as goal

abbrev pub invariant-loop-operand : goal.invariant-loop-operand
invariant-loop-operand g l = list_any (g.T.MentionTest.holds l.test) (flat_map in_operand (drop l.operand-index l.operands)) ≡ list_any (g.T.MentionTest.holds l.test) (flat_map in_operand l.operands)
