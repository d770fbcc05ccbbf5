-- A run of lowered code has at most one outcome.
use Rattle.std.proofs.Common.{refl}
use Rattle.std.specs.Prelude.{slice_get}
use Rattle.holder_model.proofs.Runs.{told_once}
use Rattle.holder_model.specs.ModuleShapes.{shapes_of}
use Rattle.holder_model.specs.LoweredRun.LowOutcomes.{low_begins, low_outcome_after}
use Rattle.holder_model.specs.LoweredRun.LowSteps.{low_step}
use Rattle.holder_model.specs.LoweredRun.inner.Laws.{LoweredRunsEndOnce}

pub end_once : LoweredRunsEndOnce
end_once m e bound a b h i =
    told_once low_outcome_after (λ s. refl) (low_step m (shapes_of m) bound) (low_begins e) (slice_get m.functions e.0) h.0 i.0 a b h.1 i.1
