-- To which rules a table belongs.
use Rattle.std.specs.Prelude.{◌≡◌, ℕ, List}
use Rattle.sil_ast.specs.declared.function.Function.{Function}
use Rattle.sil_ast.specs.declared.place.EdgeId.{EdgeId}
use Rattle.sil_ast.specs.declared.place.PointId.{PointId}
use Rattle.sil_cfg.specs.declared.item.Item.{Item}
use Rattle.sil_rules.specs.Rules.{group_of}
use Rattle.sil_rules.specs.declared.group.Group.{Group}
use Rattle.sil_rules.specs.declared.rule.Rule.{Rule}
use Rattle.reach_engine_marks.specs.PathChecks.First.{IsShown}
use Rattle.reach_engine_marks.specs.declared.path_checks.entry.Entry.{Entry}

-- what walks show of the table breaks rules of this group alone
abbrev pub ShowsOnly : Group → Function → (Item → List Entry) → Type 0
ShowsOnly group f table =
    (subject : ℕ) (rule : Rule) (walk : List EdgeId) (point : PointId) → IsShown f table subject rule walk point → group_of rule ≡ group
