-- What a table of entries shows on a function, and the first of it.
use Rattle.std.specs.Prelude.{◌≡◌, ℕ, List, Option, Some, None}
use Rattle.sil_ast.specs.declared.place.EdgeId.{EdgeId}
use Rattle.sil_ast.specs.declared.place.PointId.{PointId}
use Rattle.sil_ast.specs.declared.function.Function.{Function}
use Rattle.sil_cfg.specs.declared.item.Item.{Item}
use Rattle.sil_cfg.specs.Flow.{point_of}
use Rattle.sil_cfg.specs.Items.{flow_of}
use Rattle.sil_rules.specs.Order.{NotAfter}
use Rattle.sil_rules.specs.Rules.{index_of}
use Rattle.sil_rules.specs.declared.rule.Rule.{Rule}
use Rattle.sil_rules.specs.RuleFaults.Keys.{key}
use Rattle.reach_engine_marks.specs.PathPatterns.Along.{Shows}
use Rattle.reach_engine_marks.specs.PathPatterns.Switch.{IsInPlace, code_of}
use Rattle.reach_engine_marks.specs.declared.path_patterns.mark.Mark.{Mark}
use Rattle.reach_engine_marks.specs.declared.path_checks.entry.Entry.{Entry}
use Rattle.reach_engine_marks.specs.declared.path_checks.fault.PathFault.{PathFault}
use Rattle.reach_engine_marks.specs.PathChecks.Entries.{marks_for}

-- the walk shows at the item, which has this point, that these marks break the switch, first at one of this rule
pub record IsBreakShown (f : Function) (marks : Item → List Mark) (rule : Rule) (walk : List EdgeId) (point : PointId) (item : Item) : Type 0 where
  pub point_is : point ≡ point_of (flow_of f) item
  pub shows : Shows (flow_of f) marks IsInPlace code_of walk (index_of rule) item

-- the walk shows this of the subject's marks
abbrev pub IsShownAt : Function → (Item → List Entry) → ℕ → Rule → List EdgeId → PointId → Item → Type 0
IsShownAt f table subject rule walk point item = IsBreakShown f (marks_for subject table) rule walk point item

-- the walk shows it at some item of this point
pub record IsShown (f : Function) (table : Item → List Entry) (subject : ℕ) (rule : Rule) (walk : List EdgeId) (point : PointId) : Type 0 where
  pub item : Item
  pub at : IsShownAt f table subject rule walk point item

-- nothing is shown; or the fault is, at its item, and nothing that is shown comes before it: by subject, then by rule, then by the number of edges
abbrev pub IsFirst : Function → (Item → List Entry) → Option PathFault → Type 0
IsFirst f table None = (subject : ℕ) (rule : Rule) (walk : List EdgeId) (point : PointId) → IsShown f table subject rule walk point → ⊥
IsFirst f table (Some fault) =
    IsShownAt f table fault.subject fault.rule fault.walk fault.point fault.item
    × ((subject : ℕ) (rule : Rule) (walk : List EdgeId) (point : PointId) → IsShown f table subject rule walk point
    → NotAfter (key fault.subject fault.rule fault.walk) (key subject rule walk))
