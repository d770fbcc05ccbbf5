-- What walks show of memory, and the first of it.
use Rattle.std.specs.Prelude.{◌≡◌, ℕ, List, Option, Some}
use Rattle.sil_ast.specs.declared.function.Function.{Function}
use Rattle.sil_ast.specs.declared.place.ValueId.{ValueId}
use Rattle.sil_cfg.specs.Layout.{Layout}
use Rattle.sil_rules.specs.declared.rule_faults.fault.RuleFault.{RuleFault}
use Rattle.sil_rules.specs.Order.{Either, IsFirst}
use Rattle.sil_rules.specs.declared.rule.Rule.TheVariants as rule
use Rattle.ownership_kinds_chains.specs.OwnershipChains.Facts.{known_or}
use Rattle.ownership_kinds_chains.specs.declared.ownership_chains.facts.Facts.{Facts}
use Rattle.ownership_kinds_chains.specs.OwnershipMarks.Known.{AreKindsBy, Known}
use Rattle.memory_rules_accesses.specs.declared.source.Source.{Source}
use Rattle.memory_rules_parts.specs.Parts.{parts_of}
use Rattle.memory_rules_parts.specs.Shown as parts
use Rattle.memory_rules_slots.specs.Pairs.{IsCrossing}
use Rattle.memory_rules_slots.specs.declared.crossing.Crossing.{Crossing}
use Rattle.memory_rules.specs.Broken.{break_key}

-- two slots that are out of order are reported so: the later one takes part
abbrev pub report_of : Crossing → RuleFault
report_of c = record { rule = rule.StackOrder; subject = c.first; other = Some c.other; point = c.point; walk = c.walk }

module _ (sources : List Source) (f : Function) (facts : ValueId → Option Facts) where
  -- a walk shows it at one of the parts
  abbrev pub IsPartBreak : RuleFault → Type 0
  IsPartBreak = parts.IsShown sources facts f (parts_of sources (known_or facts))

  -- a walk shows it of two slots
  pub record IsOrderBreak (x : RuleFault) : Type 0 where
    pub later : ValueId
    pub is_order : x.rule ≡ rule.StackOrder
    pub is_other : x.other ≡ Some later
    pub shown : IsCrossing sources facts f (record { first = x.subject; walk = x.walk; point = x.point; other = later })

  abbrev pub IsWalkBreak : RuleFault → Type 0
  IsWalkBreak = Either IsPartBreak IsOrderBreak

-- what is shown in this way and comes first, whichever facts the kinds are by
abbrev pub IsFirstShown : ((ValueId → Option Facts) → RuleFault → Type 0) → Function → Layout → Known → Option RuleFault → Type 0
IsFirstShown Shown f g k o = (count : ℕ) (facts : ValueId → Option Facts) → AreKindsBy count facts f g k → IsFirst break_key (Shown facts) o
