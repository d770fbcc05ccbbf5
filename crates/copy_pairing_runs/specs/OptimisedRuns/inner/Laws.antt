-- An optimised module runs as it did.
use Rattle.std.specs.Prelude.{ℕ}
use Rattle.sil_verifier_runs.specs.sil_verifier_accepted.AcceptedModules.inner.Checked.{IsVerified}
use Rattle.copy_pairing_acceptance.specs.copy_pairing_model.Optimised.{IsOptimised}
use Rattle.holder_model_laws.specs.LockstepRuns.inner.Agreeing.{MayStartAt, OutcomesAgree, RunsAsItDid}
use Rattle.sil_ast.specs.declared.module.Module.{Module}
use Rattle.sil_ast.specs.declared.place.FuncId.{FuncId}

-- the optimised module of an accepted one runs as it did, whatever went
abbrev pub OptimisedRunsAsItDid : Type 0
OptimisedRunsAsItDid = (m last : Module) → IsVerified m → IsOptimised m last → RunsAsItDid m last

-- and what is told of its runs agrees
abbrev pub OptimisedOutcomesAgree : Type 0
OptimisedOutcomesAgree = (m last : Module) → IsVerified m → IsOptimised m last → (e : FuncId) (bound : ℕ) → MayStartAt m e → OutcomesAgree m last e bound
