use Rattle.std.proofs.Common.{◌≡◌, ℕ, [], ◌∷◌, ◌++◌, length, map, sym, ap, ◌∙◌, Option, arith}
use Rattle.std.specs.List.{range_with_len}
use Rattle.std.proofs.lemmas.List.FromFn.{map-range_with_len_more, length-map-range_with_len}
use Rattle.reach_engine_marks.specs.declared.path_patterns.mark.Mark.{Mark}
use Rattle.reach_engine_marks.proofs.path_checks.tables.marks_by_subject.Goals as goal

pub loop-subject-preserved : goal.loop-subject-preserved
loop-subject-preserved g c =
    let of : ℕ → Option Mark = g.T.SubjectMarks.mark_of c.args.table.now in
    c.in_ok-push.ensures.items ∙ ap (λ v. v ++ c.shared_mark.result ∷ []) c.loop-subject.invariant
    ∙ ap (λ m. map of (range_with_len 0 c.loop-subject.subject) ++ m ∷ []) c.shared_mark.ensures
    ∙ sym (map-range_with_len_more of 0 c.loop-subject.subject c.loop-subject.subject (omega arith))

pub returns-clause-few : goal.returns-clause-few
returns-clause-few g c =
    let long : length c.loop-subject.marks.items ≡ c.loop-subject.subject =
    ap length c.loop-subject.invariant ∙ length-map-range_with_len (g.T.SubjectMarks.mark_of c.args.table.now) 0 c.loop-subject.subject in
    omega arith
