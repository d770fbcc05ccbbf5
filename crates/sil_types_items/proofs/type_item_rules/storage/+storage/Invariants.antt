use Rattle.std.proofs.Common.{◌≡◌, drop, map}
use Rattle.std.specs.List.{list_any}
use Rattle.sil_types_declarations.specs.TypeDefinitions.Rules.{has_storage}
use Rattle.sil_types_items.proofs.type_item_rules.storage.+storage.Given as goal

abbrev pub invariant-have_storage-loop-element : goal.invariant-have_storage-loop-element
invariant-have_storage-loop-element l = list_any (λ b. b) (map has_storage (drop l.element-index l.elements)) ≡ list_any (λ b. b) (map has_storage l.elements)
