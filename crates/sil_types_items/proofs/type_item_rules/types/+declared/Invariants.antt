use Rattle.std.proofs.Common.{◌≡◌, drop, map}
use Rattle.std.specs.List.{list_all}
use Rattle.sil_types_declarations.specs.TypeDefinitions.Rules.{is_declared}
use Rattle.sil_types_items.proofs.type_item_rules.types.+declared.Given as goal

abbrev pub invariant-are_declared-loop-element : goal.invariant-are_declared-loop-element
invariant-are_declared-loop-element l = list_all (λ b. b) (map (is_declared l.table) (drop l.element-index l.elements)) ≡ list_all (λ b. b) (map (is_declared l.table) l.elements)
