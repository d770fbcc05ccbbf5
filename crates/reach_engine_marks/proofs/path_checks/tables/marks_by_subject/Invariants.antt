use Rattle.std.proofs.Common.{◌≡◌, map}
use Rattle.std.specs.List.{range_with_len}
use Rattle.reach_engine_marks.proofs.path_checks.tables.marks_by_subject.Given as goal

abbrev pub invariant-loop-subject : goal.invariant-loop-subject
invariant-loop-subject g l = l.marks.items ≡ map (g.T.SubjectMarks.mark_of l.table) (range_with_len 0 l.subject)
