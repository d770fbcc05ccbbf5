-- The automaton of a switch that a mark has broken, in state 2, from then on: it goes on at every mark.
use Rattle.std.specs.Prelude.{ℕ, zero, suc, List, [], ◌∷◌}
use Rattle.reach_engine.specs.declared.scan.Step.{Step}
use Rattle.reach_engine.specs.declared.scan.Step.TheVariants.{Go, Bad}
use Rattle.reach_engine.specs.inner.Columns.{AllMoved}
use Rattle.reach_engine.specs.inner.Run.{run}
use Rattle.reach_engine_marks.specs.declared.path_patterns.mark.Mark.{Mark}
use Rattle.reach_engine_marks.specs.PathPatterns.inner.Automaton.{mark_step}
use Rattle.reach_engine_marks.specs.PathPatterns.inner.Decides.{item_step}
use Rattle.reach_engine_marks.specs.PathPatterns.inner.Reads.{read_step}
use Rattle.reach_engine_marks.specs.PathChecks.Entries.{means}
use Rattle.reach_engine_marks.specs.declared.path_checks.entry.Entry.{Entry}
use Rattle.std.specs.Prelude.{◌+◌}

-- in place of breaking, the step goes to state 2
abbrev pub settled : Step → Step
settled (Go s) = Go s
settled (Bad code) = Go 2

abbrev pub settled_step : ℕ → Mark → Step
settled_step zero mark = settled (mark_step 0 mark)
settled_step (suc zero) mark = settled (mark_step 1 mark)
settled_step (suc (suc s)) mark = Go 2

-- over the entries of an item, as they are to one subject
abbrev pub subject_settled : (ℕ → List Entry) → ℕ → ℕ → ℕ → Step
subject_settled entries subject = item_step (read_step settled_step (means subject)) entries

-- each subject from the first one on is in the state to which these entries take it
abbrev pub ArePassed : ℕ → ℕ → ℕ → List Entry → List ℕ → List ℕ → List ℕ → List ℕ → Type 0
ArePassed first count width entries old new before after =
    AllMoved (λ u s _. run (read_step settled_step (means (first + u))) (Go s) entries) 3 count width (0 ∷ []) old new before after
