-- Some of the subjects, searched together.
use Rattle.std.specs.Prelude.{◌≡◌, ℕ, ◌+◌, ◌<◌, List, [], ◌∷◌, Option, Some, None}
use Rattle.sil_rules.specs.Rules.{index_of}
use Rattle.sil_cfg.specs.Layout.{Layout, item_at}
use Rattle.sil_cfg.specs.Flow.{numbered, point_of}
use Rattle.reach_engine.specs.declared.scan.Step.TheVariants.{Go}
use Rattle.reach_engine.specs.inner.Columns.{AllMoved}
use Rattle.reach_engine.specs.inner.Reach.{ReachesFirst}
use Rattle.reach_engine.specs.inner.Run.{run}
use Rattle.reach_engine.specs.inner.Search.{IsClean, IsLeastCode, IsShortest}
use Rattle.reach_engine_marks.specs.declared.path_checks.entry.Entry.{Entry}
use Rattle.reach_engine_marks.specs.declared.path_checks.fault.PathFault.{PathFault}
use Rattle.reach_engine_marks.specs.PathPatterns.inner.Reads.{read_step}
use Rattle.reach_engine_marks.specs.PathPatterns.inner.Automaton.{mark_step}
use Rattle.reach_engine_marks.specs.PathChecks.Entries.{means}
use Rattle.reach_engine_marks.specs.PathChecks.inner.Automata.{subject_step}

-- each subject of the chunk is in the state to which these entries take it, and it is marked as bad if they break it
abbrev pub ArePassed : ℕ → ℕ → ℕ → List Entry → List ℕ → List ℕ → List ℕ → List ℕ → Type 0
ArePassed first count width entries old new before after =
    AllMoved (λ u s _. run (read_step mark_step (means (first + u))) (Go s) entries) 2 count width (0 ∷ []) old new before after

-- the fault is that of the first subject of the chunk that some walk breaks
pub record IsChunkFault (g : Layout) (entries : ℕ → List Entry) (first count : ℕ) (fault : PathFault) : Type 0 where
  pub offset : ℕ
  pub subject : fault.subject ≡ first + offset
  pub within : offset < count
  pub clean : (u : ℕ) → u < offset → IsClean (numbered g) (subject_step entries (first + u))
  pub item : ℕ
  pub there : item_at g item ≡ Some fault.item
  pub point : fault.point ≡ point_of (numbered g) fault.item
  pub reaches : ReachesFirst (numbered g) (subject_step entries fault.subject) fault.walk (index_of fault.rule) item
  pub least : IsLeastCode (numbered g) (subject_step entries fault.subject) (index_of fault.rule)
  pub shortest : IsShortest (numbered g) (subject_step entries fault.subject) (index_of fault.rule) fault.walk

-- no walk breaks the automaton of a subject of the chunk; or the fault is that of the first such subject
abbrev pub IsFirstOfChunk : Layout → (ℕ → List Entry) → ℕ → ℕ → Option PathFault → Type 0
IsFirstOfChunk g entries first count None = (u : ℕ) → u < count → IsClean (numbered g) (subject_step entries (first + u))
IsFirstOfChunk g entries first count (Some fault) = IsChunkFault g entries first count fault
