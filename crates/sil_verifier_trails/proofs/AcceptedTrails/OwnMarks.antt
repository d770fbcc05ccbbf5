-- The marks that a table has of a value itself, where it has a mark of each value that passes a test.
use Rattle.std.proofs.Common.{◌≡◌, [], ◌∷◌, refl, sym, ap, ◌∙◌, Bool, true, false, cond, Some, None}
use Rattle.std.specs.Prelude.{◌==◌, filter_map}
use Rattle.std.specs.List.{cons_option}
use Rattle.std.proofs.lemmas.Bool.{eqb-true, false≢true}
use Rattle.sil_verifier_values.specs.ownership_kinds_chains.declared.ownership_marks.mark.Mark.{Mark}
use Rattle.sil_verifier_values.specs.ownership_kinds_chains.declared.ownership_marks.mark.MarkSort.{MarkSort}
use Rattle.sil_verifier_values.specs.reach_engine_marks.PathChecks.Entries.{means}
use Rattle.sil_verifier_values.specs.reach_engine_marks.declared.path_checks.entry.Entry.{Entry}
use Rattle.sil_verifier_values.specs.reach_engine_marks.declared.path_patterns.mark.Mark as pattern
use Rattle.sil_ast.specs.declared.place.ValueId.{ValueId}
use Rattle.sil_verifier_trails.specs.RunTrails.inner.Switched.{switched_over}
use Rattle.sil_verifier_trails.proofs.AcceptedTrails.Passed.{ReadsMarks}
use Rattle.sil_verifier_trails.proofs.AcceptedTrails.Reading.{read_by}
use Rattle.sil_verifier_trails.proofs.AcceptedTrails.Tests.{same_value}

-- a mark turns the switch as it is read
abbrev pub TurnsAsRead : (MarkSort → pattern.Mark) → Type 0
TurnsAsRead turned = (sort : MarkSort) (on c : Bool) → switched_over (turned sort ∷ []) on ≡ Some c → read_by true sort on ≡ Some c

module _ (turned : MarkSort → pattern.Mark) (as_read : TurnsAsRead turned) where
  abbrev entry : Mark → Entry
  entry m = record { subject = m.subject.0; mark = turned m.sort }

  own_read : (sort : MarkSort) (own tested on c : Bool) → (own ≡ true → tested ≡ true) →
      switched_over (cond tested (cons_option (cond own (Some (turned sort)) None) []) []) on ≡ Some c → read_by own sort on ≡ Some c
  own_read sort true true on c of h = as_read sort on c h
  own_read sort true false on c of h = absurd (false≢true (of refl))
  own_read sort false true on c of h = h
  own_read sort false false on c of h = h

  marks_of_entry : (v : ValueId) (m : Mark) (tested : Bool) → filter_map (means v.0) (cond tested (entry m ∷ []) []) ≡ cond tested (cons_option (means v.0 (entry m)) []) []
  marks_of_entry v m true = refl
  marks_of_entry v m false = refl

  pub own_reads : (test : ValueId → Bool) (v : ValueId) → test v ≡ true → ReadsMarks v (λ m. cond (test m.subject) (record { subject = m.subject.0; mark = turned m.sort } ∷ []) [])
  own_reads test v passes m on c h =
      own_read m.sort (m.subject.0 == v.0) (test m.subject) on c
      (λ own. ap test (same_value m.subject v (eqb-true m.subject.0 v.0 own)) ∙ passes)
      (ap (λ ms. switched_over ms on) (sym (marks_of_entry v m (test m.subject))) ∙ h)
