-- What a table shows of a subject depends only on the marks that it has of it; and which of the shared entries are a subject's.
use Rattle.std.proofs.Common.{◌≡◌, ℕ, zero, suc, ◌+◌, ◌<◌, List, [], ◌∷◌, refl, ap₂, Option, Some, None, arith}
use Rattle.std.specs.Prelude.{filter_map, option_to_list, slice_get, unwrap_or}
use Rattle.std.specs.List.{cons_option}
use Rattle.sil_ast.specs.declared.function.Function.{Function}
use Rattle.sil_ast.specs.declared.place.EdgeId.{EdgeId}
use Rattle.sil_ast.specs.declared.place.PointId.{PointId}
use Rattle.sil_rules.specs.Rules.{index_of}
use Rattle.sil_rules.specs.declared.rule.Rule.{Rule}
use Rattle.sil_cfg.specs.declared.item.Item.{Item}
use Rattle.sil_cfg.specs.Items.{flow_of}
use Rattle.reach_engine_marks.specs.PathPatterns.Switch.{IsInPlace, code_of}
use Rattle.reach_engine_marks.specs.declared.path_patterns.mark.Mark.{Mark}
use Rattle.reach_engine_marks.proofs.PathPatterns.SameMarks.{same_shown}
use Rattle.reach_engine_marks.specs.PathChecks.Entries.{means}
use Rattle.reach_engine_marks.specs.PathChecks.First.{IsBreakShown}
use Rattle.reach_engine_marks.specs.PathChecks.inner.Shared.{shared_from}
use Rattle.reach_engine_marks.proofs.PathChecks.OtherSubjects.{no_mark, own_mark}

-- the same marks show the same
pub same_shown_of : (f : Function) (marks other : Item → List Mark) → ((item : Item) → marks item ≡ other item) →
    (rule : Rule) (walk : List EdgeId) (point : PointId) (item : Item) → IsBreakShown f marks rule walk point item → IsBreakShown f other rule walk point item
same_shown_of f marks other same rule walk point item h = record {
  point_is = h.point_is;
  shows = same_shown IsInPlace code_of marks other same (flow_of f) walk (index_of rule) item h.shows;
}

none_later : (subject n : ℕ) (marks : List (Option Mark)) → subject < n → filter_map (means subject) (shared_from n marks) ≡ []
none_later subject n [] lt = refl
none_later subject n (None ∷ marks) lt = none_later subject (n + 1) marks (omega arith)
none_later subject n (Some m ∷ marks) lt = ap₂ cons_option (no_mark subject (record { subject = n; mark = m }) (λ same. omega arith)) (none_later subject (n + 1) marks (omega arith))

-- of the shared entries a subject has its own mark, if it has one
pub marks_shared : (marks : List (Option Mark)) (subject n d : ℕ) → subject ≡ n + d → filter_map (means subject) (shared_from n marks) ≡ option_to_list (unwrap_or (slice_get marks d) None)
marks_shared [] subject n d e = refl
marks_shared (None ∷ marks) subject n zero e = none_later subject (n + 1) marks (omega arith)
marks_shared (None ∷ marks) subject n (suc d) e = marks_shared marks subject (n + 1) d (omega arith)
marks_shared (Some m ∷ marks) subject n zero e =
    let same : n ≡ subject = omega arith in
    ap₂ cons_option (own_mark subject (record { subject = n; mark = m }) same) (none_later subject (n + 1) marks (omega arith))
marks_shared (Some m ∷ marks) subject n (suc d) e =
    ap₂ cons_option (no_mark subject (record { subject = n; mark = m }) (λ same. omega arith)) (marks_shared marks subject (n + 1) d (omega arith))
