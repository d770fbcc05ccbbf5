-- No walk of the function in which a copy became a move shows a part of memory broken.
use Rattle.std.proofs.Common.{◌≡◌, ℕ, List, [], ◌∷◌, ◌++◌, refl, subst, true, false, Option}
use Rattle.std.specs.Prelude.{Contains}
use Rattle.std.specs.List.{flat_map}
use Rattle.sil_verifier_trails.specs.memory_rules_accesses.declared.source.Source.{Source}
use Rattle.sil_verifier_trails.specs.memory_rules_parts.Parts.{is_scope, parts_of, subject_of}
use Rattle.sil_verifier_trails.specs.memory_rules_parts.Shown as parts
use Rattle.sil_verifier_trails.specs.memory_rules_parts.Shown.{other_of, part_marks}
use Rattle.sil_verifier_trails.specs.memory_rules_parts.declared.part.Part.{Part}
use Rattle.sil_verifier_trails.specs.memory_rules.Broken.{IsBroken, at_part}
use Rattle.ownership_kinds_chains.specs.OwnershipChains.Facts.{is_owned, known_or}
use Rattle.ownership_kinds_chains.specs.declared.ownership_chains.facts.Facts.{Facts}
use Rattle.reach_engine_marks.specs.PathPatterns.Along.{IsKept, Shows}
use Rattle.reach_engine_marks.specs.PathPatterns.Lawful.{FirstBreak}
use Rattle.reach_engine_marks.specs.PathPatterns.Switch.{IsInPlace, code_of}
use Rattle.reach_engine_marks.specs.PathPatterns.inner.Automaton.{mark_step}
use Rattle.reach_engine_marks.proofs.PathPatterns.SwitchDecided.{switch_decides}
use Rattle.sil_rules.specs.declared.rule_faults.fault.RuleFault.{RuleFault}
use Rattle.sil_ast.specs.declared.function.Function.{Function}
use Rattle.sil_ast.specs.declared.place.EdgeId.{EdgeId}
use Rattle.sil_ast.specs.declared.place.ValueId.{ValueId}
use Rattle.sil_cfg.specs.Flow.{point_of}
use Rattle.sil_cfg.specs.Items.{flow_of}
use Rattle.sil_cfg.specs.declared.item.Item.{Item}
use Rattle.copy_pairing_acceptance.specs.MovedMemory.inner.Items.{AreCut}
use Rattle.copy_pairing_acceptance.proofs.MovedMemory.KeptTrails.{shown_unlawful, unshown_kept}
use Rattle.copy_pairing_acceptance.proofs.MovedMemory.PartsThinned.{cut_thinned, ends_unheard}
use Rattle.copy_pairing_acceptance.proofs.MovedMemory.Thinned.{thinned_lawful}

module _ (sources : List Source) (facts : ValueId → Option Facts) (f other : Function) (c v : ValueId)
    (owned : is_owned (known_or facts v).kind ≡ true) (unscoped : is_scope sources v ≡ false)
    (clean : (s : RuleFault) → IsBroken sources facts f s → ⊥) (cuts : AreCut f other c v) where
  -- in the function itself every trail keeps each part
  part_kept : (q : Part) → Contains (parts_of sources (known_or facts)) q → IsKept (flow_of f) (part_marks sources facts f q) IsInPlace
  part_kept q there = unshown_kept IsInPlace code_of (flow_of f) (part_marks sources facts f q) mark_step switch_decides unshown
    where
      unshown : (w : List EdgeId) (code : ℕ) (item : Item) → Shows (flow_of f) (part_marks sources facts f q) IsInPlace code_of w code item → ⊥
      unshown w code item h =
          let b = h.breaks in
          clean (record {
            rule = b.mark.rule;
            subject = subject_of q;
            other = other_of sources facts f q item;
            point = point_of (flow_of f) item;
            walk = w;
          }) (at_part (record {
            part = q;
            there = there;
            subject = refl;
            item = item;
            shown = record {
              point_is = refl;
              shows = record {
                before = h.before;
                trail = h.trail;
                breaks = subst (FirstBreak IsInPlace code_of (flat_map (part_marks sources facts f q) h.before) (part_marks sources facts f q item)) b.code_is b;
              };
            };
            other = refl;
          }))

  pub parts_clean : (s : RuleFault) → parts.IsShown sources facts other (parts_of sources (known_or facts)) s → ⊥
  parts_clean s h =
      let shows = h.shown.shows in
      let cut = cuts s.walk (shows.before ++ h.item ∷ []) shows.trail in
      shown_unlawful IsInPlace code_of (flow_of other) (part_marks sources facts other h.part) s.walk _ h.item shows
      (thinned_lawful
      (cut_thinned sources facts f other c v owned h.part (ends_unheard sources (known_or facts) v unscoped h.part h.there) cut.cut)
      (part_kept h.part h.there s.walk cut.trail cut.is))
