-- No walk of the function in which a copy became a move shows two slots out of order.
use Rattle.std.proofs.Common.{◌≡◌, ◌≢◌, ◌⊎◌, inl, inr, ℕ, zero, suc, ◌<◌, List, [], ◌∷◌, ◌++◌, refl, sym, ap, ap₂, ◌∙◌, subst, arith, true, Option, Some}
use Rattle.std.specs.Prelude.{filter_map}
use Rattle.std.specs.List.{flat_map}
use Rattle.std.proofs.lemmas.Bool.{cases_eq}
use Rattle.sil_verifier_trails.specs.memory_rules_accesses.Accesses.{accesses_of}
use Rattle.sil_verifier_trails.specs.memory_rules_accesses.declared.source.Source.{Source}
use Rattle.sil_verifier_trails.specs.memory_rules.Broken.{IsBroken, crossing}
use Rattle.sil_verifier_trails.specs.memory_rules_slots.Marks.{pair_mark}
use Rattle.sil_verifier_trails.specs.memory_rules_slots.Order.{IsOrdered, code_of}
use Rattle.sil_verifier_trails.specs.memory_rules_slots.Pairs.{IsCrossing, IsSlot, ShowsPair, pair_marks}
use Rattle.sil_verifier_trails.specs.memory_rules_slots.declared.crossing.Crossing.{Crossing}
use Rattle.sil_verifier_trails.specs.memory_rules_slots.declared.mark.SlotMark.{SlotMark}
use Rattle.sil_verifier_trails.specs.memory_rules_slots.inner.Automaton.{order_step}
use Rattle.sil_verifier_trails.proofs.memory_rules_slots.OrderDecided.{order_decides}
use Rattle.ownership_kinds_chains.specs.OwnershipChains.Facts.{is_owned, known_or, value_of}
use Rattle.ownership_kinds_chains.specs.declared.ownership_chains.facts.Facts.{Facts}
use Rattle.reach_engine_marks.specs.PathPatterns.Along.{IsKept, Shows}
use Rattle.reach_engine_marks.specs.PathPatterns.Lawful.{AreLawful, FirstBreak}
use Rattle.sil_rules.specs.declared.rule_faults.fault.RuleFault.{RuleFault}
use Rattle.sil_ast.specs.declared.function.Function.{Function}
use Rattle.sil_ast.specs.declared.place.EdgeId.{EdgeId}
use Rattle.sil_ast.specs.declared.place.ValueId.{ValueId}
use Rattle.sil_cfg.specs.Flow.{point_of}
use Rattle.sil_cfg.specs.Items.{flow_of}
use Rattle.sil_cfg.specs.declared.item.Item.{Item}
use Rattle.sil_rules.specs.declared.rule.Rule.TheVariants as rule
use Rattle.copy_pairing_acceptance.specs.MovedMemory.inner.Items.{AreCut, Cut, gone, moved, none, same}
use Rattle.copy_pairing_acceptance.proofs.MovedMemory.KeptTrails.{shown_unlawful, unshown_kept}
use Rattle.copy_pairing_acceptance.proofs.MovedMemory.MovedAccesses.{gone_accesses, moved_accesses, same_accesses}
use Rattle.copy_pairing_acceptance.proofs.MovedMemory.OneSlot.{ordered_with_itself}

module _ (sources : List Source) (facts : ValueId → Option Facts) (f other : Function) (c v : ValueId) (owned : is_owned (known_or facts v).kind ≡ true) where
  module _ (a b : ValueId) where
    abbrev was : Item → List SlotMark
    was = pair_marks sources facts f a b

    abbrev now : Item → List SlotMark
    now = pair_marks sources facts other a b

    -- the marks of two slots are the same along a trail that is cut
    cut_same : {t u : List Item} → Cut f other c v t u → flat_map now u ≡ flat_map was t
    cut_same none = refl
    cut_same (same i j h k) = ap₂ (λ xs rest. filter_map (pair_mark a b) xs ++ rest) (same_accesses sources facts f other c v i j h) (cut_same k)
    cut_same (moved i j h k) = ap₂ (λ xs rest. filter_map (pair_mark a b) xs ++ rest) (moved_accesses sources facts f other c v owned i j h) (cut_same k)
    cut_same (gone {t} {u} i h k) = cut_same k ∙ ap (λ xs. filter_map (pair_mark a b) xs ++ flat_map was t) (sym (gone_accesses sources facts f other c v owned i h))

  module _ (clean : (s : RuleFault) → IsBroken sources facts f s → ⊥) (a : ValueId) (slot : IsSlot sources a) where
    -- in the function itself no walk shows the slot out of order with another one
    pair_unshown : (n : ℕ) (b : ValueId) → b.0 < n → IsSlot sources b → (w : List EdgeId) (item : Item) → ShowsPair sources facts f a b w item → ⊥
    pair_unshown zero b lt is w item h = absurd (omega arith)
    pair_unshown (suc n) b lt is w item h = at (cases_eq b.0 a.0) (λ x less also. pair_unshown n x (omega arith) also w item)
      where
        at : (b.0 ≡ a.0) ⊎ (b.0 ≢ a.0) → ((x : ValueId) → x.0 < b.0 → IsSlot sources x → ShowsPair sources facts f a x w item → ⊥) → ⊥
        at (inl e) before =
            let shown : ShowsPair sources facts f a a w item = subst (λ x. ShowsPair sources facts f a x w item) (ap value_of e) h in
            shown_unlawful IsOrdered code_of (flow_of f) (pair_marks sources facts f a a) w _ item shown
            (ordered_with_itself (accesses_of sources facts f) a (shown.before ++ item ∷ []))
        at (inr differ) before =
            clean (record { rule = rule.StackOrder; subject = a; other = Some b; point = point_of (flow_of f) item; walk = w })
            (crossing b refl refl (record {
              is_first = slot;
              is_other = is;
              different = differ;
              item = item;
              point = refl;
              shows = h;
              least = before;
            }))

    pair_kept : (b : ValueId) → IsSlot sources b → IsKept (flow_of f) (pair_marks sources facts f a b) IsOrdered
    pair_kept b is = unshown_kept IsOrdered code_of (flow_of f) (pair_marks sources facts f a b) order_step order_decides unshown
      where
        unshown : (w : List EdgeId) (code : ℕ) (item : Item) → Shows (flow_of f) (pair_marks sources facts f a b) IsOrdered code_of w code item → ⊥
        unshown w code item h =
            let s = h.breaks in
            pair_unshown (suc b.0) b (omega arith) is w item (record {
              before = h.before;
              trail = h.trail;
              breaks = subst (FirstBreak IsOrdered code_of (flat_map (pair_marks sources facts f a b) h.before) (pair_marks sources facts f a b item)) s.code_is s;
            })

  pub slots_clean : (clean : (s : RuleFault) → IsBroken sources facts f s → ⊥) (cuts : AreCut f other c v) (x : Crossing) → IsCrossing sources facts other x → ⊥
  slots_clean clean cuts x h =
      let shows = h.shows in
      let cut = cuts x.walk (shows.before ++ h.item ∷ []) shows.trail in
      shown_unlawful IsOrdered code_of (flow_of other) (pair_marks sources facts other x.first x.other) x.walk _ h.item shows
      (subst (AreLawful IsOrdered) (sym (cut_same x.first x.other cut.cut)) (pair_kept clean x.first h.is_first x.other h.is_other x.walk cut.trail cut.is))
