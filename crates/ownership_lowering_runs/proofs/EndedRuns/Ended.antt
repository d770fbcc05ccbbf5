-- Each run ends, by holders and of lowered code, and both runs of an accepted module end alike.
use Rattle.std.proofs.Common.{ℕ, ap, ◌∙◌}
use Rattle.std.specs.Prelude.{option_and_then}
use Rattle.sil_ast.specs.declared.module.Module.{Module}
use Rattle.sil_verifier_runs.specs.holder_model.HolderStates.{HolderNext, HolderState}
use Rattle.sil_verifier_runs.specs.holder_model.ModuleFacts.{facts_of}
use Rattle.sil_verifier_runs.specs.holder_model.ModuleShapes.{shapes_of}
use Rattle.sil_verifier_runs.specs.holder_model.Outcomes.{begins, outcome_after, outcome_at, run}
use Rattle.sil_verifier_runs.specs.holder_model.Steps as holder_run
use Rattle.sil_verifier_runs.specs.holder_model.LoweredRun.LowOutcomes.{low_begins, low_outcome_after, low_outcome_at}
use Rattle.sil_verifier_runs.specs.holder_model.LoweredRun.LowStepParts.{LowNext, LowState}
use Rattle.sil_verifier_runs.specs.holder_model.LoweredRun.LowSteps as low_run
use Rattle.ownership_lowering_runs.specs.EndedRuns.inner.Laws.{LoweredRunsEnd, RunsEnd, RunsEndAlike}
use Rattle.ownership_lowering_runs.proofs.SameRuns.RunsSame.{runs_same}
use Rattle.ownership_lowering_runs.proofs.EndedRuns.HolderLess as holder
use Rattle.ownership_lowering_runs.proofs.EndedRuns.LowLess as low
use Rattle.ownership_lowering_runs.proofs.EndedRuns.Measured.{ComesToEnd, Falls, comes_to_end, on_map}
use Rattle.ownership_lowering_runs.proofs.EndedRuns.Work.{LeavesLess, less_left, longest, waiting, work}

module _ (m : Module) (bound : ℕ) where
  abbrev step : HolderState → HolderNext
  step s = holder_run.step m (facts_of m) bound s

  abbrev holder_work : HolderState → ℕ
  holder_work s = work (holder.left m (facts_of m) bound) (longest m) bound s

  abbrev holder_waiting : HolderState → ℕ
  holder_waiting s = waiting s.tasks

  comes_to_end_so : (s : HolderState) → ComesToEnd step s
  comes_to_end_so s =
      comes_to_end step holder_work holder_waiting
      (λ t. on_map (LeavesLess (holder.left m (facts_of m) bound) (longest m) bound t) (Falls step holder_work holder_waiting t)
      (less_left (holder.left m (facts_of m) bound) (longest m) bound t) (step t) (holder.holder_leaves_less m (facts_of m) bound t)) s

  abbrev low_step : LowState → LowNext
  low_step l = low_run.low_step m (shapes_of m) bound l

  abbrev low_work : LowState → ℕ
  low_work l = work (low.left m (shapes_of m) bound) (longest m) bound l

  abbrev low_waiting : LowState → ℕ
  low_waiting l = waiting l.tasks

  low_comes_to_end : (l : LowState) → ComesToEnd low_step l
  low_comes_to_end l =
      comes_to_end low_step low_work low_waiting
      (λ t. on_map (LeavesLess (low.left m (shapes_of m) bound) (longest m) bound t) (Falls low_step low_work low_waiting t)
      (less_left (low.left m (shapes_of m) bound) (longest m) bound t) (low_step t) (low.low_leaves_less m (shapes_of m) bound t)) l

pub runs_end : RunsEnd
runs_end m e f bound there =
    let end = comes_to_end_so m bound (begins e f) in (
      outcome_at end.1 end.2,
      (
        end.0,
        ap (λ o. option_and_then (λ g. outcome_after (run (step m bound) end.0 (begins e g))) o) there ∙ ap outcome_after end.3,
      ),
    )

pub lowered_runs_end : LoweredRunsEnd
lowered_runs_end m e f bound there =
    let end = low_comes_to_end m bound (low_begins e f) in (
      low_outcome_at end.1 end.2,
      (
        end.0,
        ap (λ o. option_and_then (λ g. low_outcome_after (run (low_step m bound) end.0 (low_begins e g))) o) there ∙ ap low_outcome_after end.3,
      ),
    )

pub runs_end_alike : RunsEndAlike
runs_end_alike m e f bound verified there may =
    let end = runs_end m e f bound there in
    let low_end = (runs_same m e f bound verified there may).forth end.0 end.1 in
    record { outcome = end.0; ends = end.1; low = low_end.0; low_ends = low_end.1; same = low_end.2 }
