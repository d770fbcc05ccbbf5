-- What each group finds first in a function is the first of all that is shown there, where the groups before it find nothing.
use Rattle.std.proofs.Common.{◌≡◌, length, refl, sym, ap, ◌∙◌, subst, arith, None, Some}
use Rattle.sil_ast.specs.declared.function.Function.{Function}
use Rattle.sil_cfg.specs.Layout.{Layout}
use Rattle.sil_rules.specs.declared.rule_faults.fault.RuleEnd.{RuleEnd}
use Rattle.sil_rules.specs.declared.rule_faults.fault.RuleEnd.TheVariants as end
use Rattle.sil_rules.specs.declared.rule_faults.fault.RuleFault.{RuleFault}
use Rattle.numbered_form.specs.Numbering.{values_of}
use Rattle.sil_rules.specs.Order.{IsLeast, NotAfter}
use Rattle.sil_rules.specs.declared.group.Group.TheVariants as group
use Rattle.sil_types_declarations.specs.TypeDefinitions.Declarations.{Declarations}
use Rattle.numbered_form.specs.PointChecks.inner.Reports.{report_of}
use Rattle.reach_engine_marks.specs.PathChecks.First as paths
use Rattle.reach_engine_marks.specs.PathChecks.inner.Reported.{found_at}
use Rattle.value_availability.specs.Accesses.{accesses_of}
use Rattle.value_availability.specs.inner.Availability.{IsAvailable, IsFirstUndefined, IsUndefined}
use Rattle.ownership_kinds.specs.inner.Ends.{IsEndOn, IsFaultOn}
use Rattle.ownership_kinds.specs.ownership_kinds_origins.Facts.{facts_in}
use Rattle.ownership_kinds.specs.Statics.{HasKinds}
use Rattle.ownership_kinds_chains.specs.OwnershipMarks.Known.{AreKindsBy, Known}
use Rattle.lifetime_worklist.specs.inner.Lifetimes.{AreLivesKept, IsFirstBrokenLife, IsLifeBroken}
use Rattle.borrow_scopes.specs.inner.Borrows.{AreScopesKept, IsFirstBrokenScope, IsScopeBroken}
use Rattle.memory_rules.specs.memory_rules_accesses.Sources.{sources_of}
use Rattle.memory_rules.specs.Broken as breaks
use Rattle.memory_rules.specs.inner.Ends.{IsFirstFault, IsMemoryEnd, IsMemoryKept}
use Rattle.sil_verifier_accepted.proofs.AcceptedModules.Groups.{by_group, of_definitions, of_kinds, of_lifetimes, of_memory, of_scopes, within_group}
use Rattle.sil_verifier_accepted.specs.AcceptedModules.Shown.{IsShownIn, inner_key, lives_in, scopes_in}
use Rattle.sil_verifier_accepted.specs.AcceptedModules.Shown.IsShownIn.{undefined, kind, life, scope, memory}
use Rattle.sil_verifier_accepted.specs.AcceptedModules.Values.{IsCleanIn, IsEndIn, IsFirstIn}

module _ (d : Declarations) (f : Function) where
  -- 301

  first_undefined : (s : RuleFault) → IsFirstUndefined f s → IsFirstIn d f s
  first_undefined s h = record { shown = undefined h.other found; first = behind }
    where
      found : paths.IsShown f (accesses_of f) s.subject.0 s.rule s.walk s.point
      found = record { item = h.item; at = h.first.0 }

      behind : (t : RuleFault) → IsShownIn d f t → NotAfter (inner_key s) (inner_key t)
      behind t (undefined o there) =
          within_group s t group.Definitions (of_definitions d f s found) (of_definitions d f t there) (h.first.1 t.subject.0 t.rule t.walk t.point there)
      behind t (kind o e b) = by_group s t group.Definitions group.Kinds (of_definitions d f s found) (of_kinds d f t b) (omega arith)
      behind t (life o there) = by_group s t group.Definitions group.Lifetimes (of_definitions d f s found) (of_lifetimes d f t there) (omega arith)
      behind t (scope item o there) = by_group s t group.Definitions group.Scopes (of_definitions d f s found) (of_scopes d f t item there) (omega arith)
      behind t (memory b) = by_group s t group.Definitions group.Memory (of_definitions d f s found) (of_memory d f t b) (omega arith)

  pub end_undefined : (e : RuleEnd) → IsUndefined f e → IsEndIn d f e
  end_undefined (end.Fault x) h = first_undefined x h
  end_undefined end.Memory h = tt

  module _ (available : IsAvailable f) where
    -- 302 to 305

    first_kind : (x : RuleFault) → IsFaultOn d f x → IsFirstIn d f x
    first_kind x h = subst (IsFirstIn d f) (sym same) (record { shown = kind refl refl h.1.broken; first = behind })
      where
        s : RuleFault
        s = report_of h.0 None

        same : x ≡ s
        same =
            ap {B = RuleFault} (λ r. record { rule = r; subject = x.subject; other = x.other; point = x.point; walk = x.walk }) h.2.rule
            ∙ ap {B = RuleFault} (λ v. record { rule = h.0.rule; subject = v; other = x.other; point = x.point; walk = x.walk }) h.2.subject
            ∙ ap {B = RuleFault} (λ o. record { rule = h.0.rule; subject = h.0.subject; other = o; point = x.point; walk = x.walk }) h.2.other
            ∙ ap {B = RuleFault} (λ p. record { rule = h.0.rule; subject = h.0.subject; other = None; point = p; walk = x.walk }) h.2.point
            ∙ ap {B = RuleFault} (λ w. record { rule = h.0.rule; subject = h.0.subject; other = None; point = h.0.point; walk = w }) h.2.walk

        behind : (t : RuleFault) → IsShownIn d f t → NotAfter (inner_key s) (inner_key t)
        behind t (undefined o there) = absurd (available t.subject.0 t.rule t.walk t.point there)
        behind t (kind o e b) =
            within_group s t group.Kinds (of_kinds d f s h.1.broken) (of_kinds d f t b) (h.1.first t.rule t.subject t.point.block.0 t.point.index b)
        behind t (life o there) = by_group s t group.Kinds group.Lifetimes (of_kinds d f s h.1.broken) (of_lifetimes d f t there) (omega arith)
        behind t (scope item o there) = by_group s t group.Kinds group.Scopes (of_kinds d f s h.1.broken) (of_scopes d f t item there) (omega arith)
        behind t (memory b) = by_group s t group.Kinds group.Memory (of_kinds d f s h.1.broken) (of_memory d f t b) (omega arith)

    pub end_kind : (e : RuleEnd) → IsEndOn d f e → IsEndIn d f e
    end_kind (end.Fault x) h = first_kind x h
    end_kind end.Memory h = tt

    module _ (kept : HasKinds d f) (g : Layout) (k : Known) (are : AreKindsBy (length (values_of f.blocks)) (facts_in d f) f g k) where
      -- 401 to 404

      first_life : (s : RuleFault) → IsFirstBrokenLife f g k s → IsFirstIn d f s
      first_life s h = record { shown = life h.other found; first = behind }
        where
          first : paths.IsFirst f (lives_in d f) (Some (found_at s h.item))
          first = h.first (length (values_of f.blocks)) (facts_in d f) are

          found : paths.IsShown f (lives_in d f) s.subject.0 s.rule s.walk s.point
          found = record { item = h.item; at = first.0 }

          behind : (t : RuleFault) → IsShownIn d f t → NotAfter (inner_key s) (inner_key t)
          behind t (undefined o there) = absurd (available t.subject.0 t.rule t.walk t.point there)
          behind t (kind o e b) = absurd (kept t.rule t.subject t.point.block.0 t.point.index b)
          behind t (life o there) =
              within_group s t group.Lifetimes (of_lifetimes d f s found) (of_lifetimes d f t there) (first.1 t.subject.0 t.rule t.walk t.point there)
          behind t (scope item o there) = by_group s t group.Lifetimes group.Scopes (of_lifetimes d f s found) (of_scopes d f t item there) (omega arith)
          behind t (memory b) = by_group s t group.Lifetimes group.Memory (of_lifetimes d f s found) (of_memory d f t b) (omega arith)

      pub end_life : (e : RuleEnd) → IsLifeBroken f g k e → IsEndIn d f e
      end_life (end.Fault x) h = first_life x h
      end_life end.Memory h = tt

      module _ (lives : AreLivesKept f g k) where
        -- 501 to 505

        no_life : (t : RuleFault) → paths.IsShown f (lives_in d f) t.subject.0 t.rule t.walk t.point → ⊥
        no_life t there = lives (length (values_of f.blocks)) (facts_in d f) are t.subject.0 t.rule t.walk t.point there

        first_scope : (s : RuleFault) → IsFirstBrokenScope f g k s → IsFirstIn d f s
        first_scope s h = record { shown = scope h.item (h.other (length (values_of f.blocks)) (facts_in d f) are) first.0; first = behind }
          where
            first : paths.IsFirst f (scopes_in d f) (Some (found_at s h.item))
            first = h.first (length (values_of f.blocks)) (facts_in d f) are

            behind : (t : RuleFault) → IsShownIn d f t → NotAfter (inner_key s) (inner_key t)
            behind t (undefined o there) = absurd (available t.subject.0 t.rule t.walk t.point there)
            behind t (kind o e b) = absurd (kept t.rule t.subject t.point.block.0 t.point.index b)
            behind t (life o there) = absurd (no_life t there)
            behind t (scope item o there) =
                within_group s t group.Scopes (of_scopes d f s h.item first.0) (of_scopes d f t item there)
                (first.1 t.subject.0 t.rule t.walk t.point (record { item = item; at = there }))
            behind t (memory b) = by_group s t group.Scopes group.Memory (of_scopes d f s h.item first.0) (of_memory d f t b) (omega arith)

        pub end_scope : (e : RuleEnd) → IsScopeBroken f g k e → IsEndIn d f e
        end_scope (end.Fault x) h = first_scope x h
        end_scope end.Memory h = tt

        module _ (scopes : AreScopesKept f g k) where
          -- 601 to 611

          no_scope : (t : RuleFault) → paths.IsShown f (scopes_in d f) t.subject.0 t.rule t.walk t.point → ⊥
          no_scope t there = scopes (length (values_of f.blocks)) (facts_in d f) are t.subject.0 t.rule t.walk t.point there

          first_memory : (s : RuleFault) → IsFirstFault d f g k s → IsFirstIn d f s
          first_memory s h = record { shown = memory least.shown; first = behind }
            where
              least : IsLeast breaks.break_key (breaks.IsBroken (sources_of d f) (facts_in d f) f) s
              least = h (length (values_of f.blocks)) (facts_in d f) are

              behind : (t : RuleFault) → IsShownIn d f t → NotAfter (inner_key s) (inner_key t)
              behind t (undefined o there) = absurd (available t.subject.0 t.rule t.walk t.point there)
              behind t (kind o e b) = absurd (kept t.rule t.subject t.point.block.0 t.point.index b)
              behind t (life o there) = absurd (no_life t there)
              behind t (scope item o there) = absurd (no_scope t (record { item = item; at = there }))
              behind t (memory b) = within_group s t group.Memory (of_memory d f s least.shown) (of_memory d f t b) (least.first t b)

          pub end_memory : (e : RuleEnd) → IsMemoryEnd d f g k e → IsEndIn d f e
          end_memory (end.Fault x) h = first_memory x h
          end_memory end.Memory h = tt

          -- where no group finds anything nothing is shown
          pub clean_in : IsMemoryKept d f g k → IsCleanIn d f
          clean_in memories t (undefined o there) = available t.subject.0 t.rule t.walk t.point there
          clean_in memories t (kind o e b) = kept t.rule t.subject t.point.block.0 t.point.index b
          clean_in memories t (life o there) = no_life t there
          clean_in memories t (scope item o there) = no_scope t (record { item = item; at = there })
          clean_in memories t (memory b) = memories (length (values_of f.blocks)) (facts_in d f) are t b
