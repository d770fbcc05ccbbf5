-- Laws of runs by holders: a run ends in one way.
use Rattle.std.specs.Prelude.{◌≡◌, ℕ}
use Rattle.sil_ast.specs.declared.module.Module.{Module}
use Rattle.sil_ast.specs.declared.place.FuncId.{FuncId}
use Rattle.holder_model.specs.Faults.{HolderFault}
use Rattle.holder_model.specs.Outcomes.{EndsSo, Outcome}

-- two outcomes of a run from one entry function, for one bound on turns, are the same
abbrev pub RunsEndOnce : Type 0
RunsEndOnce = (m : Module) (e : FuncId) (bound : ℕ) (a b : Outcome HolderFault) → EndsSo m e bound a → EndsSo m e bound b → a ≡ b
