-- A step of the run by holders, followed by the lowered run.
use Rattle.std.specs.Prelude.{◌≡◌, ◌⊎◌, ℕ, ◌-◌, ◌<◌, List, [], ◌∷◌, length, Option, Some, None, slice_get}
use Rattle.sil_ast.specs.declared.function.Function.{Function}
use Rattle.sil_ast.specs.declared.module.Module.{Module}
use Rattle.sil_ast.specs.declared.place.PointId.{PointId}
use Rattle.sil_verifier_runs.specs.holder_model.Faults.{HolderFault}
use Rattle.sil_verifier_runs.specs.holder_model.Frames.{Frame}
use Rattle.sil_verifier_runs.specs.holder_model.HolderStates.{HolderNext, HolderState}
use Rattle.sil_verifier_runs.specs.holder_model.ModuleShapes.{shapes_of}
use Rattle.sil_verifier_runs.specs.holder_model.Outcomes.{Outcome, outcome_at}
use Rattle.sil_verifier_runs.specs.holder_model.Standing.{stands_at}
use Rattle.sil_verifier_runs.specs.holder_model.States.{Drops, Ending, Ends, Finishes, Goes, Runs, Task}
use Rattle.sil_verifier_runs.specs.holder_model.declared.lowered_run.low_fault.LowFault.{LowFault}
use Rattle.sil_verifier_runs.specs.holder_model.LoweredRun.LowOutcomes.{low_outcome_at}
use Rattle.sil_verifier_runs.specs.holder_model.LoweredRun.LowStepParts.{LowNext, LowState}
use Rattle.sil_verifier_runs.specs.holder_model.LoweredRun.LowSteps as steps
use Rattle.ownership_lowering_laws.specs.ownership_lowering_model.LoweredModules.{lowered}
use Rattle.ownership_lowering_runs.specs.StoredRuns.inner.PlaceRows.{LowGoes}
use Rattle.ownership_lowering_runs.specs.StoredRuns.inner.Points.{insts_of}
use Rattle.ownership_lowering_runs.specs.StoredRuns.inner.Runs.{IsNextFor, IsOutcomeFor}
use Rattle.ownership_lowering_runs.specs.StoredRuns.inner.States.{IsStateFor}

-- ---- what is left of the block in which the first frame stands

abbrev pub left_from : Function → PointId → ℕ
left_from f p = length (insts_of (slice_get f.blocks p.block.0)) - p.index

abbrev pub left_in : Option Function → Frame → ℕ
left_in None frame = 0
left_in (Some f) frame = left_from f (stands_at f frame.trail)

abbrev pub left_of : Module → List (Task Frame) → ℕ
left_of m [] = 0
left_of m (Runs frame ∷ rest) = left_in (slice_get m.functions frame.function.0) frame
left_of m (Drops references ∷ rest) = 0
left_of m (Finishes deinits o ∷ rest) = 0

module _ (m : Module) (bound : ℕ) where
  abbrev pub low_next_of : LowState → LowNext
  low_next_of l = steps.low_step (lowered m) (shapes_of (lowered m)) bound l

  -- one step of the lowered run does the same
  pub record StepsToo (l : LowState) (next : HolderNext) : Type 0 where
    pub low_next : LowNext
    pub step : low_next_of l ≡ low_next
    pub for : IsNextFor m next low_next

  -- in one or more steps the lowered run comes to a state that goes along, in one where a turn begins; or in none, and less is left of the block
  pub data GoesToo (s : HolderState) (l : LowState) (next : HolderState) : Type 0 where
    moves : (behind low_next : LowState) → low_next_of l ≡ Goes behind → LowGoes m bound low_next behind
        → (next.turns ≡ s.turns) ⊎ (behind ≡ low_next) → IsStateFor m next low_next → GoesToo s l next
    stays : left_of m next.tasks < left_of m s.tasks → IsStateFor m next l → GoesToo s l next

  -- in one step it ends with this outcome
  pub record EndsToo (l : LowState) (o : Outcome HolderFault) : Type 0 where
    pub ending : Ending LowFault
    pub last : LowState
    pub ends : low_next_of l ≡ Ends ending last
    pub for : IsOutcomeFor o (low_outcome_at ending last)

  abbrev pub Follows : HolderState → LowState → HolderNext → Type 0
  Follows s l (Goes next) = GoesToo s l next
  Follows s l (Ends e last) = EndsToo l (outcome_at e last)
