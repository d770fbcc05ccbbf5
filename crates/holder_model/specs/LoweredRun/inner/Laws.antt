-- Laws of runs of lowered code: a run ends in one way.
use Rattle.std.specs.Prelude.{◌≡◌, ℕ}
use Rattle.sil_ast.specs.declared.module.Module.{Module}
use Rattle.sil_ast.specs.declared.place.FuncId.{FuncId}
use Rattle.holder_model.specs.Outcomes.{Outcome}
use Rattle.holder_model.specs.declared.lowered_run.low_fault.LowFault.{LowFault}
use Rattle.holder_model.specs.LoweredRun.LowOutcomes.{LowEndsSo}

-- two outcomes of a run from one entry function, for one bound on turns, are the same
abbrev pub LoweredRunsEndOnce : Type 0
LoweredRunsEndOnce = (m : Module) (e : FuncId) (bound : ℕ) (a b : Outcome LowFault) → LowEndsSo m e bound a → LowEndsSo m e bound b → a ≡ b
