-- Each function with a body of an accepted module is lowered as the run of the lowered module asks.
use Rattle.sil_ast.specs.declared.function.Function.{Function}
use Rattle.sil_ast.specs.declared.module.Module.{Module}
use Rattle.sil_ast.specs.declared.place.FuncId.{FuncId}
use Rattle.sil_verifier_runs.specs.sil_verifier_values.inner.Known.{IsAcceptedBody}
use Rattle.ownership_lowering_runs.specs.StoredRuns.inner.Lowering.{LowersSo}

abbrev pub AreLoweredSo : Type 0
AreLoweredSo = (m : Module) (g : FuncId) (f : Function) → IsAcceptedBody m g.0 f → LowersSo m g f
