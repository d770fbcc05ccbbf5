-- What a module does from an entry function: its runs end, each in one way. And what its optimised module does beside it.
use Rattle.std.specs.Prelude.{◌≡◌, ℕ, true, Some, slice_get}
use Rattle.copy_pairing_model.specs.Optimised.{IsOptimised}
use Rattle.sil_verifier.specs.holder_model_laws.LockstepRuns.inner.Agreeing.{TellsAsItDid}
use Rattle.sil_verifier.specs.sil_verifier_accepted.AcceptedModules.inner.Checked.{IsVerified}
use Rattle.holder_model.specs.Faults.{HolderFault}
use Rattle.holder_model.specs.Outcomes.{EndsSo, Outcome, may_start}
use Rattle.holder_model.specs.LoweredRun.LowOutcomes.{LowEndsSo}
use Rattle.holder_model.specs.declared.lowered_run.low_fault.LowFault.{LowFault}
use Rattle.ownership_lowering_model.specs.LoweredModules.{lowered}
use Rattle.ownership_lowering_runs.specs.StoredRuns.inner.Runs.{IsOutcomeFor}
use Rattle.sil_ast.specs.declared.function.Function.{Function}
use Rattle.sil_ast.specs.declared.module.Module.{Module}
use Rattle.sil_ast.specs.declared.place.FuncId.{FuncId}

-- this is the outcome of the run by holders, and the run of what the module is lowered to has just one, which tells the same
pub record EndsJustSo (m : Module) (e : FuncId) (bound : ℕ) (o : Outcome HolderFault) : Type 0 where
  pub ends : EndsSo m e bound o
  pub only : (other : Outcome HolderFault) → EndsSo m e bound other → other ≡ o
  pub low : Outcome LowFault
  pub low_ends : LowEndsSo (lowered m) e bound low
  pub low_only : (other : Outcome LowFault) → LowEndsSo (lowered m) e bound other → other ≡ low
  pub same : IsOutcomeFor o low

-- the outcomes of two modules, of which the second one tells as the first did
pub record EndsAsItDid (m k : Module) (e : FuncId) (bound : ℕ) : Type 0 where
  pub first : Outcome HolderFault
  pub second : Outcome HolderFault
  pub ends : EndsJustSo m e bound first
  pub other_ends : EndsJustSo k e bound second
  pub as_it_did : TellsAsItDid first second

-- so an accepted module and its optimised one end, from each function at which a run may start, for each bound on turns
abbrev pub OptimisedEndsAsItDid : Type 0
OptimisedEndsAsItDid = (m k : Module) (e : FuncId) (f : Function) (bound : ℕ) → IsVerified m → IsOptimised m k → slice_get m.functions e.0 ≡ Some f
    → may_start f ≡ true → EndsAsItDid m k e bound
