-- 301: no operand comes before its definition.
use Rattle.std.proofs.Common.{◌≡◌, ◌≢◌, ℕ, [], ◌∷◌, ◌++◌, map, refl, sym, ap, ap₂, ◌∙◌, subst, None, Some}
use Rattle.std.specs.Prelude.{filter_map}
use Rattle.std.specs.List.{slice_get}
use Rattle.sil_ast.specs.declared.function.Function.{Function}
use Rattle.sil_ast.specs.declared.module.Module.{Module}
use Rattle.sil_ast.specs.declared.place.PointId.{PointId}
use Rattle.sil_ast.specs.declared.place.ValueId.{ValueId}
use Rattle.sil_cfg.specs.Flow.{point_of}
use Rattle.sil_cfg.specs.Items.{flow_of}
use Rattle.sil_cfg.specs.declared.item.Item.{Item}
use Rattle.sil_cfg.specs.declared.item.Item.TheVariants as item
use Rattle.sil_rules.specs.Rules.{index_of}
use Rattle.sil_rules.specs.declared.rule.Rule.TheVariants as rule
use Rattle.sil_cfg_items.specs.Parts.{item_arguments, item_handover, item_operands, item_results, operands_in, results_in}
use Rattle.reach_engine_marks.specs.PathPatterns.Along.{IsKept}
use Rattle.reach_engine_marks.specs.PathPatterns.Switch.{IsInPlace}
use Rattle.reach_engine_marks.specs.PathChecks.Entries.{marks_for, means}
use Rattle.reach_engine_marks.specs.PathChecks.First.{IsFirst}
use Rattle.ownership_kinds_chains.specs.OwnershipChains.Facts.{value_of}
use Rattle.value_availability.specs.Accesses.{accesses_of, begun, defined, used}
use Rattle.sil_verifier_trails.specs.sil_verifier_accepted.AcceptedModules.Shown.IsShownIn.{undefined}
use Rattle.sil_verifier_trails.specs.sil_verifier_accepted.AcceptedModules.inner.Checked.{IsVerified}
use Rattle.copy_pairing_acceptance.specs.MovedFunctions.inner.Structure.{old_item}
use Rattle.copy_pairing_acceptance.proofs.MovedFunctions.InModule.{clean}
use Rattle.copy_pairing_acceptance.proofs.MovedFunctions.Items.{gone}
use Rattle.copy_pairing_acceptance.proofs.MovedFunctions.KeptOnWalks.{kept_unshown, unshown_kept}
use Rattle.copy_pairing_acceptance.proofs.MovedFunctions.Places.{after, copy_stood, destroy_stood, inst_there, same_arguments, same_handover, same_operands, same_results}
use Rattle.copy_pairing_acceptance.proofs.MovedFunctions.SameFacts.{destroy_makes_none}
use Rattle.copy_pairing_acceptance.proofs.MovedFunctions.Split.{IsSplit}
use Rattle.copy_pairing_acceptance.proofs.MovedFunctions.Turnings.{IsQuiet, quiet_entry, quiet_on, shown_rule, turn_alike}
use Rattle.copy_pairing_acceptance.proofs.MovedFunctions.Walks.{kept_after}

module _ (m : Module) (n : ℕ) (f : Function) (verified : IsVerified m) (in_module : slice_get m.functions n ≡ Some f) {p : PointId} {last : ℕ} {c v : ValueId} (s : IsSplit f p last c v) where
  same_accesses : (i : Item) → i ≢ item.Inst p → accesses_of (after s) i ≡ accesses_of f (old_item p last i)
  same_accesses i ne =
      ap₂ (λ x y. map used x ++ map used y ++ map defined (item_results (after s) i) ++ map begun (item_arguments (after s) i)) (same_operands s i ne) (same_handover s i)
      ∙ ap₂ (λ x y. map used (item_operands f (old_item p last i)) ++ map used (item_handover f (old_item p last i)) ++ map defined x ++ map begun y) (same_results s i ne) (same_arguments s i)

  copy_accesses : accesses_of (after s) (item.Inst p) ≡ accesses_of f (item.Inst p)
  copy_accesses = ap (λ o. map used (operands_in o) ++ map used [] ++ map defined (results_in o) ++ map begun []) (inst_there s)
      ∙ sym (ap (λ o. map used (operands_in o) ++ map used [] ++ map defined (results_in o) ++ map begun []) (copy_stood s))

  gone_accesses : accesses_of f (gone s) ≡ used s.destroys.operand ∷ []
  gone_accesses =
      ap (λ o. map used (operands_in o) ++ map used [] ++ map defined (results_in o) ++ map begun []) (destroy_stood s)
      ∙ ap₂ (λ x y. map used x ++ map used [] ++ map defined y ++ map begun []) s.destroys.operands (destroy_makes_none m n f verified in_module s)

  module _ (u : ℕ) where
    kept : IsKept (flow_of (after s)) (marks_for u (accesses_of (after s))) IsInPlace
    kept =
        kept_after s (marks_for u (accesses_of f)) (marks_for u (accesses_of (after s))) (λ i ne. ap (filter_map (means u)) (same_accesses i ne))
        (turn_alike s (marks_for u (accesses_of f)) (marks_for u (accesses_of (after s))) (ap (filter_map (means u)) copy_accesses)
        (subst IsQuiet (sym (ap (filter_map (means u)) gone_accesses)) (quiet_entry u (used s.destroys.operand) (quiet_on rule.Undefined))))
        (unshown_kept (marks_for u (accesses_of f)) (flow_of f) (λ w code i h.
        clean m n f verified in_module p.block.0 s.block s.there
        (record { rule = h.breaks.mark.rule; subject = value_of u; other = None; point = point_of (flow_of f) i; walk = w })
        (undefined refl (record { item = i; at = record { point_is = refl; shows = shown_rule (flow_of f) (marks_for u (accesses_of f)) w code i h } }))))

  pub none_undefined : IsFirst (after s) (accesses_of (after s)) None
  none_undefined u r walk point h = kept_unshown (marks_for u (accesses_of (after s))) (flow_of (after s)) (kept u) walk (index_of r) h.item h.at.shows
