-- Entries that turn no switch.
use Rattle.std.proofs.Common.{◌≡◌, ℕ, List, [], ◌∷◌, refl, ap₂, Bool, true, false, Some, None}
use Rattle.std.specs.Prelude.{◌==◌, cond, filter_map}
use Rattle.std.specs.List.{AllByRecursion, cons_option}
use Rattle.reach_engine_marks.specs.declared.path_patterns.mark.Mark.{Mark}
use Rattle.reach_engine_marks.specs.declared.path_checks.entry.Entry.{Entry}
use Rattle.reach_engine_marks.specs.PathChecks.Entries.{means}

abbrev pub IsQuiet : Entry → Type 0
IsQuiet e = e.mark.turns ≡ None

pub quiet_turns : (subject : ℕ) (entries : List Entry) → AllByRecursion IsQuiet entries → filter_map (λ (m : Mark). m.turns) (filter_map (means subject) entries) ≡ []
quiet_turns subject [] h = refl
quiet_turns subject (e ∷ entries) h = at (e.subject == subject) (quiet_turns subject entries h.1)
  where
    at : (own : Bool) → filter_map (λ (m : Mark). m.turns) (filter_map (means subject) entries) ≡ []
        → filter_map (λ (m : Mark). m.turns) (cons_option (cond own (Some e.mark) None) (filter_map (means subject) entries)) ≡ []
    at true rest = ap₂ cons_option h.0 rest
    at false rest = rest
