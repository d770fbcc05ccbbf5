-- The automaton of one subject.
use Rattle.std.specs.Prelude.{ℕ, List}
use Rattle.reach_engine.specs.declared.scan.Step.{Step}
use Rattle.reach_engine_marks.specs.PathPatterns.inner.Automaton.{mark_step}
use Rattle.reach_engine_marks.specs.PathPatterns.inner.Decides.{item_step}
use Rattle.reach_engine_marks.specs.PathPatterns.inner.Reads.{read_step}
use Rattle.reach_engine_marks.specs.PathChecks.Entries.{means}
use Rattle.reach_engine_marks.specs.declared.path_checks.entry.Entry.{Entry}

-- over the entries of an item
abbrev pub subject_step : (ℕ → List Entry) → ℕ → ℕ → ℕ → Step
subject_step entries subject = item_step (read_step mark_step (means subject)) entries
