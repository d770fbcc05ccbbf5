-- What is done at an item's operands, and what the item with a number does.
use Rattle.std.specs.Prelude.{ℕ, List, [], map, Option, Some, None}
use Rattle.std.specs.List.{flat_map}
use Rattle.sil_ast.specs.declared.function.Function.{Function}
use Rattle.sil_ast.specs.declared.inst.Inst.{Inst}
use Rattle.sil_cfg.specs.Layout.{Layout, item_at}
use Rattle.sil_cfg.specs.declared.item.Item.{Item}
use Rattle.ownership_kinds_chains.specs.OwnershipMarks.Known.{Known, marks_at}
use Rattle.ownership_kinds_chains.specs.declared.ownership_marks.mark.Mark.{Mark}
use Rattle.sil_cfg_items.specs.declared.taken.Taken.{Taken}
use Rattle.memory_rules_accesses.specs.declared.access.Access.{Access}
use Rattle.memory_rules_accesses.specs.declared.access.Access.TheVariants.{Does}
use Rattle.memory_rules_accesses.specs.declared.columns.AccessKind.{AccessKind}
use Rattle.sil_ast.specs.declared.inst.Qualifier.{Qualifier}
use Rattle.memory_rules_accesses.specs.declared.source.Source.{Source}
use Rattle.memory_rules_accesses.specs.Accesses.{accesses_with}
use Rattle.memory_rules_accesses.specs.Operations.{access_kind_of, operated_at}

abbrev pub done_at : AccessKind → Qualifier → Taken → List Access
done_at k q t = map Does (operated_at k q t)

abbrev pub does_among : Option Inst → List Taken → List Access
does_among None taken = []
does_among (Some i) taken = flat_map (done_at (access_kind_of i.op) i.qualifier) taken

abbrev pub done_by : List Source → Function → List Mark → Option Item → List Access
done_by sources f marks None = []
done_by sources f marks (Some item) = accesses_with sources marks f item

-- what the item with a number does, by the marks that are kept for it
abbrev pub told_at_item : List Source → Function → Layout → Known → ℕ → List Access
told_at_item sources f g k n = done_by sources f (marks_at k n) (item_at g n)
