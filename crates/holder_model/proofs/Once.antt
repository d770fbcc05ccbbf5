-- A run by holders has at most one outcome.
use Rattle.std.proofs.Common.{refl}
use Rattle.std.specs.Prelude.{slice_get}
use Rattle.holder_model.specs.ModuleFacts.{facts_of}
use Rattle.holder_model.specs.Outcomes.{begins, outcome_after}
use Rattle.holder_model.specs.Steps.{step}
use Rattle.holder_model.specs.inner.Laws.{RunsEndOnce}
use Rattle.holder_model.proofs.Runs.{told_once}

pub end_once : RunsEndOnce
end_once m e bound a b h i = told_once outcome_after (λ s. refl) (step m (facts_of m) bound) (begins e) (slice_get m.functions e.0) h.0 i.0 a b h.1 i.1
