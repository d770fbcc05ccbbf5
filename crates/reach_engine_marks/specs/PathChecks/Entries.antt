-- The marks that the entries of a table have for a subject.
use Rattle.std.specs.Prelude.{ℕ, List, ◌==◌, cond, filter_map, Option, Some, None}
use Rattle.reach_engine_marks.specs.declared.path_patterns.mark.Mark.{Mark}
use Rattle.reach_engine_marks.specs.declared.path_checks.entry.Entry.{Entry}

-- an entry is a mark of its own subject, and nothing to any other
abbrev pub means : ℕ → Entry → Option Mark
means subject entry = cond (entry.subject == subject) (Some entry.mark) None

-- the subject's marks at an item, by a table of entries
abbrev pub marks_for : {I : Type 0} → ℕ → (I → List Entry) → I → List Mark
marks_for subject table item = filter_map (means subject) (table item)
