-- States of a lowered run beside those of the run by holders.
use Rattle.std.specs.Prelude.{◌≡◌}
use Rattle.numbered_form.specs.Lists.{Each}
use Rattle.sil_ast.specs.declared.module.Module.{Module}
use Rattle.sil_verifier_runs.specs.holder_model.HolderStates.{HolderState}
use Rattle.sil_verifier_runs.specs.holder_model.LoweredRun.LowStepParts.{LowState}
use Rattle.ownership_lowering_runs.specs.StoredRuns.inner.Frames.{AreTasksFor, HasFullParts}
use Rattle.ownership_lowering_runs.specs.StoredRuns.inner.Memories.{IsMemoryFor}
use Rattle.sil_verifier_runs.specs.holder_model_laws.StoredCounts.inner.Numbers.{AreCounts}

pub record IsStateFor (m : Module) (s : HolderState) (low : LowState) : Type 0 where
  pub tasks : AreTasksFor m s.tasks low.tasks
  pub memory : IsMemoryFor s.memory low.memory
  pub parts : Each (HasFullParts m low.memory) low.tasks
  pub counts : AreCounts s low.numbers
  pub events : low.events ≡ s.events
  pub turns : low.turns ≡ s.turns
  pub retains : low.retains ≡ s.retains
  pub releases : low.releases ≡ s.releases
