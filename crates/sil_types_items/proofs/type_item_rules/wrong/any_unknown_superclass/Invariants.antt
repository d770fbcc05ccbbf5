use Rattle.std.proofs.Common.{◌≡◌, drop, map}
use Rattle.std.specs.List.{list_any}
use Rattle.sil_types_declarations.specs.TypeDefinitions.Mentions as item
use Rattle.sil_types_declarations.specs.TypeDefinitions.Rules.{is_of_unknown_class}
use Rattle.sil_types_items.proofs.type_item_rules.wrong.any_unknown_superclass.Given as goal

abbrev pub invariant-loop-decl : goal.invariant-loop-decl
invariant-loop-decl l = list_any (is_of_unknown_class l.table) (map item.decl (drop l.decl-index l.decls)) ≡ list_any (is_of_unknown_class l.table) (map item.decl l.decls)
