-- The rule of the table is 301.
use Rattle.std.proofs.Common.{◌≡◌, ◌++◌, map, refl}
use Rattle.std.specs.List.{AllByRecursion}
use Rattle.sil_ast.specs.declared.function.Function.{Function}
use Rattle.sil_cfg.specs.declared.item.Item.{Item}
use Rattle.sil_rules.specs.Rules.{group_of}
use Rattle.sil_rules.specs.declared.group.Group.TheVariants.{Definitions}
use Rattle.sil_cfg_items.specs.Parts.{item_arguments, item_handover, item_operands, item_results}
use Rattle.reach_engine_marks.specs.PathChecks.inner.Groups.{ShowsOnly}
use Rattle.reach_engine_marks.specs.declared.path_checks.entry.Entry.{Entry}
use Rattle.reach_engine_marks.proofs.PathChecks.RulesShown.{each_append, each_map, shown_rule}
use Rattle.value_availability.specs.Accesses.{accesses_of, begun, defined, used}

abbrev IsOn : Entry → Type 0
IsOn e = group_of e.mark.rule ≡ Definitions

each_access : (f : Function) (item : Item) → AllByRecursion IsOn (accesses_of f item)
each_access f item =
    each_append IsOn (map used (item_operands f item) ++ map used (item_handover f item) ++ map defined (item_results f item)) (map begun (item_arguments f item))
    (each_append IsOn (map used (item_operands f item) ++ map used (item_handover f item)) (map defined (item_results f item))
    (each_append IsOn (map used (item_operands f item)) (map used (item_handover f item))
    (each_map IsOn used (item_operands f item) (λ o. refl)) (each_map IsOn used (item_handover f item) (λ o. refl)))
    (each_map IsOn defined (item_results f item) (λ v. refl)))
    (each_map IsOn begun (item_arguments f item) (λ a. refl))

pub on_definitions : (f : Function) → ShowsOnly Definitions f (accesses_of f)
on_definitions f = shown_rule (λ r. group_of r ≡ Definitions) f (accesses_of f) (each_access f)
