-- The least fault of a function is what breaks 608 or 611 first, and without one nothing does.
use Rattle.std.proofs.Common.{◌≡◌, ℕ, List, [], ◌∷◌, refl, sym, ap, subst, true, Option, Some, None}
use Rattle.std.specs.Prelude.{cond, length}
use Rattle.sil_ast.specs.declared.function.Function.{Function}
use Rattle.sil_ast.specs.declared.inst.Inst.{Inst}
use Rattle.sil_ast.specs.declared.place.ValueId.{ValueId}
use Rattle.sil_rules.specs.declared.rule_faults.fault.RuleFault.{RuleFault}
use Rattle.sil_rules.specs.Order.{NotAfter}
use Rattle.sil_rules.specs.Rules.{number_of}
use Rattle.sil_rules.specs.declared.rule.Rule.{Rule}
use Rattle.numbered_form.specs.PointChecks.Points.{IsAt, key_at}
use Rattle.numbered_form.specs.PointChecks.inner.Faults.{fault_at, key_of, least}
use Rattle.numbered_form.specs.PointChecks.inner.Reports.{IsReport, report_of}
use Rattle.numbered_form.specs.declared.point_checks.fault.PointFault.{PointFault}
use Rattle.numbered_form.proofs.PointChecks.Among.{Among}
use Rattle.numbered_form.proofs.PointChecks.Order.{least_among, least_none}
use Rattle.numbered_form.proofs.PointChecks.Reported.{is_report}
use Rattle.memory_rules_accesses.specs.declared.source.Source.{Source}
use Rattle.memory_rules.specs.Broken.{IsFirstStatic, IsStaticBreak, break_key}
use Rattle.memory_rules.specs.inner.StaticFaults.{other_by, statics_of}
use Rattle.memory_rules.specs.Statics.{IsBrokenAt, is_static}
use Rattle.memory_rules.specs.Statics.IsBrokenAt.{overlapping, lacking}
use Rattle.memory_rules.proofs.AmongStatics.{BreaksAt, broken_in_faults, faults_break}

module _ (sources : List Source) (f : Function) where
  is_static_rule : (r : Rule) (v : ValueId) (o : Option ValueId) (n k : ℕ) → IsBrokenAt sources f r v o n k → is_static r ≡ true
  is_static_rule _ _ _ _ _ (overlapping n k i a b at e) = refl
  is_static_rule _ _ _ _ _ (lacking n k i a at c) = refl

  -- a static rule is ordered by its point
  key_is : (x : RuleFault) → IsBrokenAt sources f x.rule x.subject x.other x.point.block.0 x.point.index →
      break_key x ≡ key_at x.rule x.subject x.point.block.0 x.point.index
  key_is x broken =
      ap (λ b. x.subject.0 ∷ number_of x.rule ∷ cond b (x.point.block.0 ∷ x.point.index ∷ []) (length x.walk ∷ []))
      (is_static_rule x.rule x.subject x.other x.point.block.0 x.point.index broken)

  first_some : (x : PointFault) (o : Option ValueId) → least None (statics_of sources f) ≡ Some x →
      IsBrokenAt sources f x.rule x.subject o x.point.block.0 x.point.index → IsFirstStatic sources f (Some (report_of x o))
  first_some x o e broken = record { shown = (broken, refl); first = first }
    where
      least_of : Among x (statics_of sources f) × ((y : PointFault) → Among y (statics_of sources f) → NotAfter (key_of x) (key_of y))
      least_of = least_among (statics_of sources f) x e

      first : (y : RuleFault) → IsStaticBreak sources f y → NotAfter (break_key (report_of x o)) (break_key y)
      first y h =
          subst (λ key. NotAfter key (break_key y)) (sym (key_is (report_of x o) broken))
          (subst (NotAfter (key_of x)) (sym (key_is y h.0))
          (least_of.1 (fault_at y.point.block.0 y.point.index y.rule y.subject)
          (broken_in_faults sources f y.rule y.subject y.other y.point.block.0 y.point.index h.0)))

  pub found_first : (x : PointFault) (o : Option ValueId) (y : RuleFault) → least None (statics_of sources f) ≡ Some x →
      ((i : Inst) → IsAt f x.point.block.0 x.point.index i → o ≡ other_by sources x.rule i x.subject) → IsReport x o y → IsFirstStatic sources f (Some y)
  found_first x o y e is reported = by (faults_break sources f x (least_among (statics_of sources f) x e).0)
    where
      by : BreaksAt sources f x → IsFirstStatic sources f (Some y)
      by r = subst (λ z. IsFirstStatic sources f (Some z)) (sym (is_report x o y reported)) (first_some x o e (r.2 o (is r.0 r.1)))

  pub first_none : least None (statics_of sources f) ≡ None → IsFirstStatic sources f None
  first_none e y h =
      least_none (statics_of sources f) (fault_at y.point.block.0 y.point.index y.rule y.subject) e
      (broken_in_faults sources f y.rule y.subject y.other y.point.block.0 y.point.index h.0)
