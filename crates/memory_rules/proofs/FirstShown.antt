-- The first of each kind of what walks show, by the order of all that is broken.
use Rattle.std.proofs.Common.{◌≡◌, ℕ, zero, suc, List, [], ◌∷◌, length, true, false, refl, sym, ap, subst, inl, inr, Option, Some, None}
use Rattle.std.specs.Prelude.{slice_get, unwrap_or}
use Rattle.std.specs.List.{list_any}
use Rattle.std.proofs.lemmas.Bool.{both_ways, or_parts}
use Rattle.sil_ast.specs.declared.function.Function.{Function}
use Rattle.sil_ast.specs.declared.place.EdgeId.{EdgeId}
use Rattle.sil_ast.specs.declared.place.ValueId.{ValueId}
use Rattle.sil_cfg.specs.Layout.{Layout}
use Rattle.sil_rules.specs.RuleFaults.Keys.{fault_key}
use Rattle.sil_rules.specs.declared.rule_faults.fault.RuleFault.{RuleFault}
use Rattle.sil_rules.specs.Order.{IsFirst, IsLeast, NotAfter}
use Rattle.sil_rules.specs.Rules.{number_of}
use Rattle.sil_rules.specs.declared.rule.Rule.TheVariants as rule
use Rattle.ownership_kinds_chains.specs.OwnershipChains.Facts.{known_or}
use Rattle.ownership_kinds_chains.specs.declared.ownership_chains.facts.Facts.{Facts}
use Rattle.ownership_kinds_chains.specs.OwnershipMarks.Known.{Known}
use Rattle.memory_rules_accesses.specs.declared.source.Source.{Source}
use Rattle.memory_rules_accesses.specs.declared.source.Source.TheVariants as source
use Rattle.memory_rules_parts.specs.Parts.{parts_of}
use Rattle.memory_rules_parts.specs.Shown.{IsFirstFinding}
use Rattle.memory_rules_accesses.specs.Sources.{is_slot_source}
use Rattle.memory_rules_slots.specs.Pairs.{IsCrossing, IsFirstCrossing, crossing_key}
use Rattle.memory_rules_slots.specs.declared.crossing.Crossing.{Crossing}
use Rattle.memory_rules.specs.Broken.{break_key, last_key}
use Rattle.memory_rules.specs.inner.Reports.{IsFirstShown, IsOrderBreak, IsPartBreak, report_of}
use Rattle.memory_rules.proofs.BreakKeys.{walk_key}
use Rattle.memory_rules_parts.proofs.RulesOf.{of_parts}

-- where there is no slot, no two of them cross
no_slot : (sources : List Source) → list_any is_slot_source sources ≡ false → (n : ℕ) → is_slot_source (unwrap_or (slice_get sources n) source.Other) ≡ true → ⊥
no_slot [] none n is = cc
no_slot (s ∷ sources) none zero is = both_ways (is_slot_source s) (or_parts (is_slot_source s) (list_any is_slot_source sources) none).0 is
no_slot (s ∷ sources) none (suc n) is = no_slot sources (or_parts (is_slot_source s) (list_any is_slot_source sources) none).1 n is

pub no_crossing : (sources : List Source) (f : Function) (g : Layout) (k : Known) → list_any is_slot_source sources ≡ false → IsFirstCrossing sources f g k None
no_crossing sources f g k none count facts by c s = no_slot sources none c.first.0 s.is_first

-- what is shown has the same first by another key, where it has the same key
first_by : {A : Type 0} (key other : A → List ℕ) (Shown : A → Type 0) → ((a : A) → Shown a → other a ≡ key a) → (o : Option A) → IsFirst key Shown o → IsFirst other Shown o
first_by key other Shown same None none = none
first_by key other Shown same (Some a) least = record { shown = least.shown; first = behind }
  where
    behind : (b : _) → Shown b → NotAfter (other a) (other b)
    behind b h = subst (NotAfter (other a)) (sym (same b h)) (subst (λ l. NotAfter l (key b)) (sym (same a least.shown)) (least.first b h))

order_key : (x : RuleFault) → x.rule ≡ rule.StackOrder → break_key x ≡ x.subject.0 ∷ 604 ∷ length x.walk ∷ []
order_key x e = ap (λ r. x.subject.0 ∷ number_of r ∷ last_key r x.walk x.point) e

order_moved : (v w : ValueId) (one other : List EdgeId) → NotAfter (v.0 ∷ length one ∷ []) (w.0 ∷ length other ∷ []) →
    NotAfter (v.0 ∷ 604 ∷ length one ∷ []) (w.0 ∷ 604 ∷ length other ∷ [])
order_moved v w one other (inl lt) = inl lt
order_moved v w one other (inr (e, rest)) = inr (e, inr (refl, rest))

module _ (sources : List Source) (f : Function) where
  module _ (facts : ValueId → Option Facts) where
    order_behind : (c : Crossing) → IsLeast crossing_key (IsCrossing sources facts f) c → (x : RuleFault) → IsOrderBreak sources f facts x →
        NotAfter (break_key (report_of c)) (break_key x)
    order_behind c least x h =
        let order = least.first (record { first = x.subject; walk = x.walk; point = x.point; other = h.later }) h.shown in
        subst (NotAfter (break_key (report_of c))) (sym (order_key x h.is_order)) (order_moved c.first x.subject c.walk x.walk order)

    least_order : (c : Crossing) → IsLeast crossing_key (IsCrossing sources facts f) c → IsLeast break_key (IsOrderBreak sources f facts) (report_of c)
    least_order c least = record { shown = record { later = c.other; is_order = refl; is_other = refl; shown = least.shown }; first = order_behind c least }

  module _ (g : Layout) (k : Known) where
    pub first_part : (o : Option RuleFault) → IsFirstFinding sources f g k o → IsFirstShown (IsPartBreak sources f) f g k o
    first_part o first = λ count facts are.
        first_by fault_key break_key (IsPartBreak sources f facts) (λ x h. walk_key x (of_parts sources facts f (parts_of sources (known_or facts)) x h).1) o
        (first count facts are)

    pub no_order : IsFirstCrossing sources f g k None → IsFirstShown (IsOrderBreak sources f) f g k None
    no_order none = λ count facts are x h. none count facts are (record { first = x.subject; walk = x.walk; point = x.point; other = h.later }) h.shown

    pub first_order : (c : Crossing) → IsFirstCrossing sources f g k (Some c) → IsFirstShown (IsOrderBreak sources f) f g k (Some (report_of c))
    first_order c first = λ count facts are. least_order facts c (first count facts are)
