-- The earlier of two that come first of their kinds comes first of both.
use Rattle.std.proofs.Common.{◌≡◌, List, ap, inl, inr, false, Option}
use Rattle.sil_ast.specs.declared.function.Function.{Function}
use Rattle.sil_ast.specs.declared.place.ValueId.{ValueId}
use Rattle.sil_cfg.specs.Layout.{Layout}
use Rattle.sil_rules.specs.RuleFaults.Keys.{fault_key}
use Rattle.sil_rules.specs.declared.rule_faults.fault.RuleFault.{RuleFault}
use Rattle.sil_rules.proofs.Firsts.{first_same}
use Rattle.sil_rules.specs.Order.{Either, IsEarlier}
use Rattle.ownership_kinds_chains.specs.OwnershipChains.Facts.{known_or}
use Rattle.ownership_kinds_chains.specs.declared.ownership_chains.facts.Facts.{Facts}
use Rattle.ownership_kinds_chains.specs.OwnershipMarks.Known.{Known}
use Rattle.memory_rules_accesses.specs.declared.source.Source.{Source}
use Rattle.memory_rules_parts.specs.Parts.{parts_of}
use Rattle.memory_rules_parts.specs.Shown.{IsFirstFinding}
use Rattle.memory_rules.specs.Broken.{IsBroken, IsFirstBreak, IsFirstStatic, IsStaticBreak, break_key}
use Rattle.memory_rules.specs.Broken.IsBroken.{at_part, crossing, static}
use Rattle.memory_rules.specs.inner.Reports.{IsFirstShown, IsOrderBreak, IsPartBreak, IsWalkBreak}
use Rattle.memory_rules.specs.Statics.{is_static}
use Rattle.memory_rules.proofs.BreakKeys.{earlier_first}
use Rattle.memory_rules.proofs.FirstShown.{first_part}
use Rattle.memory_rules_parts.proofs.RulesOf.{of_parts}

module _ (sources : List Source) (f : Function) where
  module _ (facts : ValueId → Option Facts) where
    at_parts : (x : RuleFault) → IsPartBreak sources f facts x → is_static x.rule ≡ false
    at_parts x h = (of_parts sources facts f (parts_of sources (known_or facts)) x h).1

    on_walks : (x : RuleFault) → IsWalkBreak sources f facts x → is_static x.rule ≡ false
    on_walks x (inl part) = at_parts x part
    on_walks x (inr order) = ap is_static order.is_order

    abbrev Shown : RuleFault → Type 0
    Shown = Either (IsWalkBreak sources f facts) (IsStaticBreak sources f)

    broken : (x : RuleFault) → Shown x → IsBroken sources facts f x
    broken x (inl (inl h)) = at_part h
    broken x (inl (inr h)) = crossing h.later h.is_order h.is_other h.shown
    broken x (inr h) = static h.1 h.0

    kind : (x : RuleFault) → IsBroken sources facts f x → Shown x
    kind x (at_part shown) = inl (inl shown)
    kind x (crossing later is_order is_other shown) = inl (inr (record { later = later; is_order = is_order; is_other = is_other; shown = shown }))
    kind x (static walk at) = inr (at, walk)

  module _ (g : Layout) (k : Known) (a b r : Option RuleFault) where
    -- the earlier of the first at a part and the first of two slots is the first on walks
    pub walk_first : IsFirstFinding sources f g k a → IsFirstShown (IsOrderBreak sources f) f g k b → IsEarlier fault_key a b r →
        IsFirstShown (IsWalkBreak sources f) f g k r
    walk_first one other e = λ count facts are.
        earlier_first (IsPartBreak sources f facts) (IsOrderBreak sources f facts) (at_parts facts) a b r (first_part sources f g k a one count facts are)
        (other count facts are) e

    -- the earlier of the first on walks and the first static one is the first of all
    pub all_first : IsFirstShown (IsWalkBreak sources f) f g k a → IsFirstStatic sources f b → IsEarlier fault_key a b r → IsFirstBreak sources f g k r
    all_first one other e = λ count facts are.
        first_same break_key (Shown facts) (IsBroken sources facts f) (broken facts) (kind facts) r
        (earlier_first (IsWalkBreak sources f facts) (IsStaticBreak sources f) (on_walks facts) a b r (one count facts are) other e)
