-- Laws of lowered runs beside runs by holders.
use Rattle.std.specs.Prelude.{◌≡◌, ℕ, ◌+◌, true, Some, slice_get}
use Rattle.sil_ast.specs.declared.function.Function.{Function}
use Rattle.sil_ast.specs.declared.module.Module.{Module}
use Rattle.sil_ast.specs.declared.place.FuncId.{FuncId}
use Rattle.sil_types_declarations.specs.TypeDefinitions.Declarations.{declarations_of}
use Rattle.sil_verifier_runs.specs.sil_verifier_accepted.AcceptedModules.inner.Checked.{IsVerified}
use Rattle.sil_verifier_runs.specs.holder_model.HolderStates.{HolderState}
use Rattle.sil_verifier_runs.specs.holder_model.ModuleFacts.{facts_of}
use Rattle.sil_verifier_runs.specs.holder_model.ModuleShapes.{shapes_of}
use Rattle.sil_verifier_runs.specs.holder_model.Outcomes.{begins, may_start, run}
use Rattle.sil_verifier_runs.specs.holder_model.States.{Goes}
use Rattle.sil_verifier_runs.specs.holder_model.Steps as holder_run
use Rattle.sil_verifier_runs.specs.holder_model.LoweredRun.LowOutcomes.{low_begins}
use Rattle.sil_verifier_runs.specs.holder_model.LoweredRun.LowStepParts.{LowState}
use Rattle.sil_verifier_runs.specs.holder_model.LoweredRun.LowSteps.{low_step}
use Rattle.ownership_lowering_laws.specs.ownership_lowering_model.LoweredModules.{lowered, lowered_body}
use Rattle.ownership_lowering_runs.specs.StoredRuns.inner.States.{IsStateFor}
use Rattle.ownership_lowering_runs.specs.StoredRuns.inner.TypedSteps.{IsTypedFor}
use Rattle.ownership_lowering_runs.specs.SameRuns.inner.Followed.{Follows}
use Rattle.ownership_lowering_runs.specs.SameRuns.inner.InRightStates.{IsComeTo}

-- each step of a run that starts at an entry is followed
abbrev pub AreStepsFollowed : Type 0
AreStepsFollowed = (m : Module) (bound : ℕ) (s : HolderState) → IsVerified m → IsComeTo m bound s → (l : LowState) → IsTypedFor m s l
    → Follows m bound s l (holder_run.step m (facts_of m) bound s)

-- both runs begin so
abbrev pub BeginTypedFor : Type 0
BeginTypedFor = (m : Module) (e : FuncId) (f : Function) → IsVerified m → slice_get m.functions e.0 ≡ Some f → may_start f ≡ true
    → IsTypedFor m (begins e f) (low_begins e (lowered_body (declarations_of m) f))

-- a state to which the run of lowered code comes from an entry function, and in which a turn has just begun
pub data BeginsTurn (m : Module) (e : FuncId) (entry : Function) (bound : ℕ) : LowState → Type 0 where
  first : BeginsTurn m e entry bound (low_begins e entry)
  next : (steps : ℕ) (before l : LowState) → run (low_step m (shapes_of m) bound) steps (low_begins e entry) ≡ Goes before
      → low_step m (shapes_of m) bound before ≡ Goes l → l.turns ≡ before.turns + 1 → BeginsTurn m e entry bound l

-- beside a state of the run by holders stands one to which the lowered run comes: the same tasks and memory, the stored numbers are the counts of
-- holders, and events, turns, retains and releases are equal
pub record IsCounted (m : Module) (e : FuncId) (bound : ℕ) (s : HolderState) : Type 0 where
  pub entry : Function
  pub there : slice_get (lowered m).functions e.0 ≡ Some entry
  pub low : LowState
  pub steps : ℕ
  pub comes : run (low_step (lowered m) (shapes_of (lowered m)) bound) steps (low_begins e entry) ≡ Goes low
  pub along : IsStateFor m s low

-- and such a one, to which the run by holders comes, stands beside a state of the lowered run
pub record CountsHolders (m : Module) (e : FuncId) (entry : Function) (bound : ℕ) (l : LowState) : Type 0 where
  pub s : HolderState
  pub steps : ℕ
  pub comes : run (holder_run.step m (facts_of m) bound) steps (begins e entry) ≡ Goes s
  pub along : IsStateFor m s l

-- so it is of each state to which the run by holders comes, and of each in which a turn of the lowered run begins
pub record AreCountedThroughout (m : Module) (e : FuncId) (f : Function) (bound : ℕ) : Type 0 where
  pub forth : (steps : ℕ) (s : HolderState) → run (holder_run.step m (facts_of m) bound) steps (begins e f) ≡ Goes s → IsCounted m e bound s
  pub back : (entry : Function) (l : LowState) → slice_get (lowered m).functions e.0 ≡ Some entry → BeginsTurn (lowered m) e entry bound l
      → CountsHolders m e f bound l

abbrev pub AreNumbersCounts : Type 0
AreNumbersCounts = (m : Module) (e : FuncId) (f : Function) (bound : ℕ) → IsVerified m → slice_get m.functions e.0 ≡ Some f → may_start f ≡ true
    → AreCountedThroughout m e f bound
