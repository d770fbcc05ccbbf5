use Rattle.std.proofs.Common.{◌≡◌, drop}
use Rattle.std.specs.List.{flat_map, list_any}
use Rattle.sil_types_declarations.specs.TypeDefinitions.Mentions.{function_members}
use Rattle.sil_types_declarations.specs.TypeDefinitions.Rules.{is_no_member}
use Rattle.sil_types_items.proofs.type_item_rules.wrong.any_bad_member.Given as goal

abbrev pub invariant-loop-function : goal.invariant-loop-function
invariant-loop-function l = list_any (is_no_member l.table) (flat_map function_members (drop l.function-index l.functions)) ≡ list_any (is_no_member l.table) (flat_map function_members l.functions)
