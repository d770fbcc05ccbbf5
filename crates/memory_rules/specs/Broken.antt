-- What breaks a rule on memory, and the first of all.
use Rattle.std.specs.Prelude.{◌≡◌, ℕ, List, [], ◌∷◌, cond, length, Option, Some}
use Rattle.sil_ast.specs.declared.function.Function.{Function}
use Rattle.sil_rules.specs.declared.rule_faults.fault.RuleFault.{RuleFault}
use Rattle.sil_ast.specs.declared.place.EdgeId.{EdgeId}
use Rattle.sil_ast.specs.declared.place.PointId.{PointId}
use Rattle.sil_ast.specs.declared.place.ValueId.{ValueId}
use Rattle.sil_cfg.specs.Layout.{Layout}
use Rattle.sil_rules.specs.Order.{IsFirst}
use Rattle.sil_rules.specs.Rules.{number_of}
use Rattle.sil_rules.specs.declared.rule.Rule.{Rule}
use Rattle.sil_rules.specs.declared.rule.Rule.TheVariants as rule
use Rattle.ownership_kinds_chains.specs.OwnershipChains.Facts.{known_or}
use Rattle.ownership_kinds_chains.specs.declared.ownership_chains.facts.Facts.{Facts}
use Rattle.ownership_kinds_chains.specs.OwnershipMarks.Known.{AreKindsBy, Known}
use Rattle.memory_rules_accesses.specs.declared.source.Source.{Source}
use Rattle.memory_rules_parts.specs.Parts.{parts_of}
use Rattle.memory_rules_parts.specs.Shown as parts
use Rattle.memory_rules_slots.specs.Pairs.{IsCrossing}
use Rattle.memory_rules.specs.Statics.{IsBrokenAt, is_static}

-- a rule on memory is broken: a walk shows it at one of the parts (contents, allocation, loans, building and addresses) or of two slots,
-- or an instruction breaks 608 or 611, with no walk
pub data IsBroken (sources : List Source) (facts : ValueId → Option Facts) (f : Function) (x : RuleFault) : Type 0 where
  at_part : parts.IsShown sources facts f (parts_of sources (known_or facts)) x → IsBroken sources facts f x
  crossing : (later : ValueId) → x.rule ≡ rule.StackOrder → x.other ≡ Some later
      → IsCrossing sources facts f (record { first = x.subject; walk = x.walk; point = x.point; other = later }) → IsBroken sources facts f x
  static : x.walk ≡ [] → IsBrokenAt sources f x.rule x.subject x.other x.point.block.0 x.point.index → IsBroken sources facts f x

-- of one value and rule: a static rule by its point, one on walks by the number of edges
abbrev pub last_key : Rule → List EdgeId → PointId → List ℕ
last_key r walk point = cond (is_static r) (point.block.0 ∷ point.index ∷ []) (length walk ∷ [])

-- by value, then by rule, and then so
abbrev pub break_key : RuleFault → List ℕ
break_key x = x.subject.0 ∷ number_of x.rule ∷ last_key x.rule x.walk x.point

-- this comes first of all that is broken, whichever facts the kinds are by
abbrev pub IsFirstBreak : List Source → Function → Layout → Known → Option RuleFault → Type 0
IsFirstBreak sources f g k found =
    (count : ℕ) (facts : ValueId → Option Facts) → AreKindsBy count facts f g k → IsFirst break_key (IsBroken sources facts f) found

-- the static rule comes first of those that are broken
abbrev pub IsStaticBreak : List Source → Function → RuleFault → Type 0
IsStaticBreak sources f x = IsBrokenAt sources f x.rule x.subject x.other x.point.block.0 x.point.index × (x.walk ≡ [])

abbrev pub IsFirstStatic : List Source → Function → Option RuleFault → Type 0
IsFirstStatic sources f found = IsFirst break_key (IsStaticBreak sources f) found
