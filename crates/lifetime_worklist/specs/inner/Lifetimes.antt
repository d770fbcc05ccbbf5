-- Rules 401 to 404.
use Rattle.std.specs.Prelude.{◌≡◌, ℕ, ⊤, Option, Some, None}
use Rattle.sil_ast.specs.declared.function.Function.{Function}
use Rattle.sil_ast.specs.declared.place.ValueId.{ValueId}
use Rattle.sil_cfg.specs.Layout.{Layout}
use Rattle.sil_rules.specs.declared.rule_faults.fault.RuleEnd.{RuleEnd}
use Rattle.sil_rules.specs.declared.rule_faults.fault.RuleEnd.TheVariants.{Fault, Memory}
use Rattle.sil_rules.specs.declared.rule_faults.fault.RuleFault.{RuleFault}
use Rattle.sil_cfg.specs.declared.item.Item.{Item}
use Rattle.reach_engine_marks.specs.PathChecks.First.{IsFirst}
use Rattle.reach_engine_marks.specs.PathChecks.inner.Reported.{found_at}
use Rattle.reach_engine_marks.specs.declared.path_checks.fault.PathFault.{PathFault}
use Rattle.ownership_kinds_chains.specs.declared.ownership_chains.facts.Facts.{Facts}
use Rattle.ownership_kinds_chains.specs.OwnershipMarks.Known.{AreKindsBy, Known}
use Rattle.lifetime_worklist.specs.Lives.{lives_of}

-- this comes first of what walks show, whichever facts the kinds are by
abbrev pub IsFirstLife : Function → Layout → Known → Option PathFault → Type 0
IsFirstLife f g k fault = (count : ℕ) (facts : ValueId → Option Facts) → AreKindsBy count facts f g k → IsFirst f (lives_of count facts f) fault

-- no walk breaks the life of an Owned value
abbrev pub AreLivesKept : Function → Layout → Known → Type 0
AreLivesKept f g k = IsFirstLife f g k None

-- the walk breaks one at the point, and nothing that is shown comes before it: by value, then by rule, and then with fewer edges
pub record IsFirstBrokenLife (f : Function) (g : Layout) (k : Known) (fault : RuleFault) : Type 0 where
  pub item : Item
  pub first : IsFirstLife f g k (Some (found_at fault item))
  pub other : fault.other ≡ None

abbrev pub IsLifeBroken : Function → Layout → Known → RuleEnd → Type 0
IsLifeBroken f g k (Fault fault) = IsFirstBrokenLife f g k fault
IsLifeBroken f g k Memory = ⊤
